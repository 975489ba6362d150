-- A step as the machine's inner functions hand it on: registers lent as eight numbers, and what changes of them.
use Rattle.std.specs.Prelude.{List, ◌≡◌, ℕ, Result, Ok, Err}
use Rattle.base.specs.Numbers.{number_of}
use Rattle.base.specs.Told.{is}
use Rattle.base.specs.declared.refusals.Refusal.{Refusal}
use Rattle.instruction.specs.declared.Register.TheVariants.{PC}
use Rattle.machine.specs.Plan.{Planned, plans, refusal}
use Rattle.machine.specs.Registers.{put}
use Rattle.machine.specs.declared.Move.{Move}
use Rattle.machine.specs.declared.Registers.{Registers}

abbrev pub regs : List ℕ → Registers
regs g = record { value = g }

-- one register gets a value, and then PC its own; a refusal moves nothing
abbrev pub moved_by : Registers → Result Move Refusal → Planned
moved_by s (Ok m) = plans (is m.answer) (put (put s m.register m.value) PC m.pc) m.changes
moved_by s (Err r) = refusal s (number_of r)

-- so moved, the registers g are as planned of them
abbrev pub Moves : List ℕ → Result Move Refusal → (Registers → Planned) → Type 0
Moves g m plan = moved_by (regs g) m ≡ plan (regs g)
