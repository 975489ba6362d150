-- The recording step. An accepted step fills slot `next`, moves it on modulo D, and raises held to at most D. With D = 0
-- nothing is recorded. Stop and refusals record nothing.
use Rattle.std.specs.Prelude.{ℕ, ◌+◌, min, Bool, true, false, List, eqb, Option, Some, None}
use Rattle.base.specs.Choice.{cond}
use Rattle.base.specs.Told.{Told, is, no}
use Rattle.machine.specs.Plan.{plan}
use Rattle.machine.specs.Step as machine
use Rattle.machine.specs.declared.Registers.{Registers}
use Rattle.machine.specs.declared.StepAnswer.{StepAnswer}
use Rattle.machine.specs.declared.StepAnswer.TheVariants.{Continue, Debug, Stop}
use Rattle.map.specs.declared.Place.{Place}
use Rattle.memory.specs.Bytes.{Lent, get}
use Rattle.memory.specs.declared.Change.{Change}
use Rattle.memory.specs.declared.Changes.{Changes}
use Rattle.memory.specs.declared.Changes.TheVariants.{Nothing, One, Two}
use Rattle.records.specs.Records.{old, entry}
use Rattle.records.specs.Slots.{room, filled, slot_after}
use Rattle.records.specs.declared.Old.{Old}
use Rattle.records.specs.declared.Record.{Record}
use Rattle.journal.specs.States.{Whole, whole, state, valid}
use Rattle.journal.specs.declared.State.{State}

-- a step's answer, and all there is after it
pub record Result : Type 0 where
  pub answer : Told StepAnswer
  pub whole : Whole

abbrev pub result_of : Told StepAnswer → Whole → Result
result_of a w = record { answer = a; whole = w }

-- accepted means Continue or Debug
unfoldable pub is_accepted : Told StepAnswer → Bool
is_accepted (is Continue) = true
is_accepted (is Debug) = true
is_accepted (is Stop) = false
is_accepted (no n) = false

-- ---- the record of a step

unfoldable pub byte_of : Option (ℕ × Place) → ℕ
byte_of (Some (v, p)) = v
byte_of None = 0

-- address and old byte of a byte to be stored
unfoldable pub replaced : Lent → Change → Old
replaced b x = old x.address (byte_of (get x.place b))

-- the kind says how many bytes are stored; the registers s are those before the step; unused is zero
unfoldable pub record_of : Registers → Lent → Changes → Record
record_of s b Nothing = entry 0 s.value (old 0 0) (old 0 0)
record_of s b (One x) = entry 1 s.value (replaced b x) (old 0 0)
record_of s b (Two x y) = entry 2 s.value (replaced b x) (replaced b y)

-- ---- where it goes, in a journal with room for d

-- one slot on, one record more held
unfoldable pub advanced : State → ℕ → State
advanced s d = cond (eqb d 0) s (state s.machine (slot_after d s.next) (min (s.held + 1) d))

unfoldable pub noted : ℕ → ℕ → Record → List ℕ → List ℕ
noted next d r journal = cond (eqb d 0) journal (filled journal next r)

abbrev pub recorded : Record → Whole → Whole
recorded r w =
    let d = room w.journal in
    whole (advanced w.state d) w.bytes (noted w.state.next d r w.journal)

-- ---- the step

-- the machine and the bytes that a step of the machine reached
abbrev pub moved : Whole → machine.After → Whole
moved w a = whole (state a.machine w.state.next w.state.held) a.bytes w.journal

-- a step of the machine, and its record if it is accepted
unfoldable pub taken : Whole → machine.After → Result
taken w a =
    let m = w.state.machine in
    result_of a.answer
    (cond (is_accepted a.answer) (recorded (record_of m.registers w.bytes (plan m w.bytes).changes) (moved w a)) w)

-- 1 first
unfoldable pub step : Whole → Result
step w =
    cond (valid w.state w.bytes.dev w.journal) (taken w (machine.step w.state.machine w.bytes))
    (result_of (no 1) w)
