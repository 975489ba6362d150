-- Words are low byte first. A word whose second address is past the last one has no high byte: 3, if its low byte is mapped
-- (read) or takes the store (write).
use Rattle.std.specs.Prelude.{ℕ, Bool, true, false, Option, Some, None}
use Rattle.base.specs.Addresses.{second_address, address_or}
use Rattle.base.specs.Choice.{cond}
use Rattle.base.specs.Told.{Told, is, no, told, ◌>>=◌}
use Rattle.base.specs.Words.{word_of, low_of, high_of}
use Rattle.map.specs.declared.Map.{Map}
use Rattle.map.specs.declared.Place.{Place}
use Rattle.memory.specs.declared.Stored.{Stored}
use Rattle.memory.specs.declared.Stored.TheVariants.{Done, Failed}
use Rattle.memory.specs.declared.Change.{Change}
use Rattle.memory.specs.declared.Changes.{Changes}
use Rattle.memory.specs.declared.Changes.TheVariants.{Nothing, One, Two}
use Rattle.memory.specs.declared.Decision.{Decision}
use Rattle.memory.specs.Bytes.{Lent, put, target_in, read_byte, takes, store_byte}

-- ---- reading

-- the word of a low byte and what was read for the high one; or no word, where that is unmapped
unfoldable pub joined : ℕ → Option (ℕ × Place) → Option ℕ
joined low None = None
joined low (Some (high, p)) = Some (word_of low high)

-- with the low byte read, the high one at the second address
unfoldable pub read_high : Map → Lent → Option (ℕ × Place) → Option ℕ → Told (Option ℕ)
read_high m s None second = is None
read_high m s (Some (low, p)) second = address_or 3 second >>= λ b. is (joined low (read_byte m s b))

unfoldable pub read_word : Map → Lent → ℕ → Told (Option ℕ)
read_word m s a = read_high m s (read_byte m s a) (second_address a)

-- ---- a store, of a byte and of a word

-- what becomes of it
unfoldable pub byte_stored : Map → Lent → ℕ → Stored
byte_stored m s a = cond (takes m s a) Done Failed

-- a word's: the low byte's store, then that of the high one at the second address
unfoldable pub word_stored : Map → Lent → ℕ → Told Stored
word_stored m s a = cond (takes m s a) (address_or 3 (second_address a) >>= λ b. is (byte_stored m s b)) (is Failed)

-- low, then high at the second address; a byte that takes no store changes nothing, so if high fails, the low byte stays
unfoldable pub store_both : Map → Lent → ℕ → Option ℕ → ℕ → Lent
store_both m s a None w = s
store_both m s a (Some b) w = store_byte m (store_byte m s a (low_of w)) b (high_of w)

-- where the low byte takes no store, there is none
unfoldable pub store_word : Map → Lent → ℕ → ℕ → Lent
store_word m s a w = cond (takes m s a) (store_both m s a (second_address a) w) s

unfoldable pub is_done : Told Stored → Bool
is_done (is Done) = true
is_done (is Failed) = false
is_done (no n) = false

-- ---- the same stores, decided and not yet made: what becomes of it, as said above, and which bytes go where. Once made, it is the
-- store (proofs/Decisions.antt)

abbrev pub change : ℕ → Place → ℕ → Change
change a p v = record { address = a; place = p; byte = v }

pub record Decided : Type 0 where
  pub outcome : Told Stored
  pub changes : Changes

abbrev pub decides : Told Stored → Changes → Decided
decides r c = record { outcome = r; changes = c }

abbrev pub decided : Decision → Decided
decided d = decides (told d.outcome) d.changes

-- a byte goes where memory sends it
unfoldable pub change_at : Map → Lent → ℕ → ℕ → Change
change_at m s a v = change a (target_in m s a) v

unfoldable pub byte_decision : Map → Lent → ℕ → ℕ → Decided
byte_decision m s a v = decides (is (byte_stored m s a)) (cond (takes m s a) (One (change_at m s a v)) Nothing)

-- with the low byte's change, the high byte's at its own address
unfoldable pub high_change : Map → Lent → ℕ → ℕ → Change → Changes
high_change m s a v low = cond (takes m s a) (Two low (change_at m s a v)) (One low)

unfoldable pub word_changes : Map → Lent → ℕ → Option ℕ → ℕ → Changes
word_changes m s a None w = Nothing
word_changes m s a (Some b) w = high_change m s b (high_of w) (change_at m s a (low_of w))

unfoldable pub word_decision : Map → Lent → ℕ → ℕ → Decided
word_decision m s a w = decides (word_stored m s a) (cond (takes m s a) (word_changes m s a (second_address a) w) Nothing)

-- the bytes after it is made
unfoldable pub made : Changes → Lent → Lent
made Nothing s = s
made (One x) s = put x.place s x.byte
made (Two x y) s = put y.place (put x.place s x.byte) y.byte
