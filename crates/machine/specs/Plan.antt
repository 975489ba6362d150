-- A step that is planned: fetch at PC, decode, act, add 2 to PC. Order: Stop, 2 or 3 at fetch, 4 to 6, then 3, 7, 8, then 9.
use Rattle.std.specs.Prelude.{ℕ, Option, Some, None}
use Rattle.base.specs.Choice.{cond}
use Rattle.base.specs.Told.{Told, is, no, told}
use Rattle.base.specs.Addresses.{raised_pc}
use Rattle.instruction.specs.Decode.{decode}
use Rattle.instruction.specs.declared.Instruction.{Instruction}
use Rattle.instruction.specs.declared.Register.TheVariants.{PC}
use Rattle.memory.specs.Bytes.{Lent}
use Rattle.memory.specs.Words.{read_word}
use Rattle.memory.specs.declared.Changes.{Changes}
use Rattle.memory.specs.declared.Changes.TheVariants.{Nothing}
use Rattle.machine.specs.Registers.{get, put, flag}
use Rattle.machine.specs.Acts.{Act, next, jump, act}
use Rattle.machine.specs.declared.Machine.{Machine}
use Rattle.machine.specs.declared.Plan.{Plan}
use Rattle.machine.specs.declared.Registers.{Registers}
use Rattle.machine.specs.declared.StepAnswer.{StepAnswer}
use Rattle.machine.specs.declared.StepAnswer.TheVariants.{Continue, Stop}

-- a step's answer, the registers after it, the bytes to be stored
pub record Planned : Type 0 where
  pub answer : Told StepAnswer
  pub registers : Registers
  pub changes : Changes

abbrev pub plans : Told StepAnswer → Registers → Changes → Planned
plans a s c = record { answer = a; registers = s; changes = c }

abbrev pub planned : Plan → Planned
planned p = plans (told p.answer) p.registers p.changes

-- ---- over the registers s before the step

-- a refusal changes nothing
unfoldable pub refusal : Registers → ℕ → Planned
refusal s n = plans (no n) s Nothing

-- add 2 to PC; 9 where it can't be raised
unfoldable pub raised : Registers → StepAnswer → Registers → Changes → Option ℕ → Planned
raised s a t c (Some pc) = plans (is a) (put t PC pc) c
raised s a t c None = refusal s 9

-- taken jumps, call and return skip the addition
unfoldable pub finished : Registers → Told Act → Planned
finished s (is (next a t c)) = raised s a t c (raised_pc (get t PC))
finished s (is (jump t)) = plans (is Continue) t Nothing
finished s (no n) = refusal s n

-- ---- of a machine

-- 4 to 6
unfoldable pub decoded : Machine → Lent → Told Instruction → Planned
decoded m b (is i) = finished m.registers (act m b i)
decoded m b (no n) = refusal m.registers n

-- 2 or 3
unfoldable pub fetched : Machine → Lent → Told (Option ℕ) → Planned
fetched m b (is (Some w)) = decoded m b (decode w)
fetched m b (is None) = refusal m.registers 2
fetched m b (no n) = refusal m.registers n

-- FLAGS bit 0 set answers Stop
unfoldable pub plan : Machine → Lent → Planned
plan m b =
    cond (flag m.registers 0) (plans (is Stop) m.registers Nothing)
    (fetched m b (read_word m.map b (get m.registers PC)))
