-- Step-back moves `next` back, lowers held, restores second byte, first byte, registers; the slot stays. Order: 1, 10, 11.
use Rattle.std.specs.Prelude.{ℕ, zero, suc, ◌-◌, Bool, true, false, not, ◌&&◌, List, [], ◌∷◌, eqb, Option, Some, None}
use Rattle.base.specs.Choice.{cond}
use Rattle.base.specs.Order.{Refusing, ◌when◌, first_of}
use Rattle.machine.specs.States as machine
use Rattle.machine.specs.declared.Machine.{Machine}
use Rattle.map.specs.declared.Map.{Map}
use Rattle.memory.specs.Bytes.{Lent, takes, store_byte}
use Rattle.records.specs.Slots.{room, record_at, slot_before}
use Rattle.records.specs.declared.Record.{Record}
use Rattle.journal.specs.States.{Whole, whole, state, valid, valid_whole, emptied}
use Rattle.journal.specs.declared.Used.{Used}
use Rattle.journal.specs.declared.Used.TheVariants.{Neither, First, Both}
use Rattle.journal.specs.declared.State.{State}

-- a step-back's number, 0 where it is accepted, and all there is after it
pub record Backed : Type 0 where
  pub number : ℕ
  pub whole : Whole

abbrev pub backed : ℕ → Whole → Backed
backed n w = record { number = n; whole = w }

-- ---- a record

-- which of its two places a kind uses: that many bytes were stored; none has a kind over 2
unfoldable pub used_by : ℕ → Option Used
used_by zero = Some Neither
used_by (suc zero) = Some First
used_by (suc (suc zero)) = Some Both
used_by (suc (suc (suc n))) = None

-- 11: kind over 2, or a used address takes no store
unfoldable pub fits : Map → Lent → Record → Option Used → Bool
fits m b r (Some Neither) = true
fits m b r (Some First) = takes m b r.first.address
fits m b r (Some Both) = takes m b r.second.address && takes m b r.first.address
fits m b r None = false

-- second byte, first byte
unfoldable pub restored : Map → Lent → Record → Option Used → Lent
restored m b r (Some Neither) = b
restored m b r (Some First) = store_byte m b r.first.address r.first.byte
restored m b r (Some Both) = store_byte m (store_byte m b r.second.address r.second.byte) r.first.address r.first.byte
restored m b r None = b

-- ---- the newest one

unfoldable pub newest : Whole → Record
newest w = record_at w.journal (slot_before (room w.journal) w.state.next)

-- the machine with a record's registers
abbrev pub with : Machine → Record → Machine
with m r = machine.with m (record { value = r.registers })

-- a record is undone, and held no more
unfoldable pub undone : Whole → Record → Whole
undone w r =
    let s = w.state in
    let m = s.machine in
    whole (state (with m r) (slot_before (room w.journal) s.next) (s.held - 1)) (restored m.map w.bytes r (used_by r.kind)) w.journal

-- ---- step-back: 10, 11

unfoldable pub back_order : Whole → List Refusing
back_order w =
    10 when eqb w.state.held 0
    ∷ 11 when not (fits w.state.machine.map w.bytes (newest w) (used_by (newest w).kind))
    ∷ []

-- 1 first
unfoldable pub back_number : Whole → ℕ
back_number w = first_of (1 when not (valid_whole w) ∷ back_order w)

unfoldable pub step_back : Whole → Backed
step_back w = backed (back_number w) (cond (eqb (back_number w) 0) (undone w (newest w)) w)

-- ---- forget: 1, and the journal is emptied

unfoldable pub forget_number : State → List ℕ → List ℕ → ℕ
forget_number s dev journal = first_of (1 when not (valid s dev journal) ∷ [])

unfoldable pub forgotten : State → List ℕ → List ℕ → State
forgotten s dev journal = cond (valid s dev journal) (emptied s) s
