-- The journal's bytes: D slots of 23, and what follows them is never touched.
use Rattle.std.specs.Prelude.{ℕ, ◌+◌, ◌*◌, ◌-◌, ◌/◌, ◌%◌, min, List, ◌++◌, length, take, drop}
use Rattle.records.specs.Records.{encode, decode}
use Rattle.records.specs.declared.Record.{Record}

-- D is the lesser of 4,096 and journal length / 23
unfoldable pub room : List ℕ → ℕ
room journal = min 4096 (length journal / 23)

-- the record in slot k
unfoldable pub record_at : List ℕ → ℕ → Record
record_at journal k = decode (take 23 (drop (23 * k) journal))

-- the journal with slot k filled
unfoldable pub filled : List ℕ → ℕ → Record → List ℕ
filled journal k r = take (23 * k) journal ++ encode r ++ drop (23 * k + 23) journal

-- the slot after k and the slot before it, modulo d
unfoldable pub slot_after : ℕ → ℕ → ℕ
slot_after d k = (k + 1) % d

unfoldable pub slot_before : ℕ → ℕ → ℕ
slot_before d k = (k + (d - 1)) % d
