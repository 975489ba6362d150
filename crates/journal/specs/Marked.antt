-- A step that stores a word, and its step-back, byte by byte. That the definitions come to just this is computed
-- (proofs/MarkedLaw.antt).
use Rattle.std.specs.Prelude.{ℕ, false, List, [], ◌∷◌, replicate}
use Rattle.map.specs.Entries.{empty_map}
use Rattle.machine.specs.declared.Machine.{Machine}
use Rattle.memory.specs.Bytes.{lent}
use Rattle.journal.specs.States.{Whole, whole, state}

-- A is 4660, which is 18 * 256 + 52; the other registers but PC are zero, and the tables are empty
abbrev pub machine_at : ℕ → Machine
machine_at pc =
    record { registers = record { value = 4660 ∷ 0 ∷ 0 ∷ 0 ∷ 0 ∷ pc ∷ 0 ∷ 0 ∷ [] }; mode = record { debug = false }; map = empty_map }

-- memory begins with LdrStr A B true 2, which stores A's word at 2; the journal has one slot, and holds nothing
abbrev pub before : Whole
before = whole (state (machine_at 0) 0 0) (lent (132 ∷ 20 ∷ 7 ∷ 9 ∷ []) []) (replicate 23 255)

-- the record: two bytes were stored, the registers were these, at 2 there was 7, at 3 there was 9
abbrev pub written : List ℕ
written =
    2 ∷ 52 ∷ 18 ∷ 0 ∷ 0 ∷ 0 ∷ 0 ∷ 0 ∷ 0 ∷ 0 ∷ 0 ∷ 0 ∷ 0 ∷ 0 ∷ 0 ∷ 0 ∷ 0 ∷ 2 ∷ 0 ∷ 7 ∷ 3 ∷ 0 ∷ 9 ∷ []

-- after the step
abbrev pub stored : Whole
stored = whole (state (machine_at 2) 0 1) (lent (132 ∷ 20 ∷ 52 ∷ 18 ∷ []) []) written

-- and after the step-back: the slot stays
abbrev pub restored : Whole
restored = whole (state (machine_at 0) 0 0) (lent (132 ∷ 20 ∷ 7 ∷ 9 ∷ []) []) written
