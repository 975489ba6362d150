-- The whole state: a machine, `next` and `held` by value, beside the lent memory, device and journal bytes.
use Rattle.std.specs.Prelude.{ℕ, Bool, ◌&&◌, ◌||◌, List, ltb, leb, eqb}
use Rattle.machine.specs.States as machine
use Rattle.machine.specs.declared.Machine.{Machine}
use Rattle.memory.specs.Bytes.{Lent}
use Rattle.records.specs.Slots.{room}
use Rattle.journal.specs.declared.State.{State}

pub record Whole : Type 0 where
  pub state : State
  pub bytes : Lent
  pub journal : List ℕ

abbrev pub whole : State → Lent → List ℕ → Whole
whole s b j = record { state = s; bytes = b; journal = j }

abbrev pub state : Machine → ℕ → ℕ → State
state m next held = record { machine = m; next = next; held = held }

-- next < D (or next = 0 = D)
unfoldable pub next_in : ℕ → ℕ → Bool
next_in next d = ltb next d || (eqb next 0 && eqb d 0)

-- a state is valid if its tables are, held <= D, and next is a slot; of the state and the bytes of its device buffer and its journal
unfoldable pub valid : State → List ℕ → List ℕ → Bool
valid s dev journal =
    machine.valid s.machine dev && leb s.held (room journal) && next_in s.next (room journal)

abbrev pub valid_whole : Whole → Bool
valid_whole w = valid w.state w.bytes.dev w.journal

-- a new state: the machine is new, nothing is held
abbrev pub fresh : Bool → State
fresh debug = state (machine.fresh debug) 0 0

-- the journal is emptied: next and held are 0, its bytes stay
abbrev pub emptied : State → State
emptied s = state s.machine 0 0
