-- Reading memory out: 12, 19, then bytes up to the first unmapped one and their count; later buffer bytes stay.
use Rattle.std.specs.Prelude.{ℕ, zero, suc, ◌+◌, not, List, [], ◌∷◌, ◌++◌, ltb, eqb, length, drop, Option, Some, None, Result, Ok, Err}
use Rattle.base.specs.Choice.{cond}
use Rattle.base.specs.Numbers.{number_of}
use Rattle.base.specs.Order.{Refusing, ◌when◌, first_of}
use Rattle.map.specs.Valid.{valid}
use Rattle.base.specs.declared.refusals.Refusal.{Refusal}
use Rattle.map.specs.declared.Map.{Map}
use Rattle.map.specs.declared.Place.{Place}
use Rattle.memory.specs.Bytes.{Lent, read_byte}

-- a byte that was read, before those after it; nothing from an unmapped one on
unfoldable pub until_unmapped : Option (ℕ × Place) → List ℕ → List ℕ
until_unmapped (Some (v, p)) rest = v ∷ rest
until_unmapped None rest = []

-- the bytes from address a on, at most n, up to the first unmapped one
unfoldable pub read_bytes : Map → Lent → ℕ → ℕ → List ℕ
read_bytes m s a zero = []
read_bytes m s a (suc n) = until_unmapped (read_byte m s a) (read_bytes m s (a + 1) n)

-- bytes at the start of a buffer
unfoldable pub over : List ℕ → List ℕ → List ℕ
over bytes buffer = bytes ++ drop (length bytes) buffer

-- 01's number of an answer, 0 where it is accepted, and its count
pub record Counted : Type 0 where
  pub number : ℕ
  pub count : ℕ

abbrev pub numbered : ℕ → ℕ → Counted
numbered n k = record { number = n; count = k }

abbrev pub counted : Result ℕ Refusal → Counted
counted (Ok n) = numbered 0 n
counted (Err r) = numbered (number_of r) 0

-- reading memory out: 12, 19; with room bytes in the buffer
unfoldable pub read_order : ℕ → ℕ → ℕ → List Refusing
read_order start size room = 12 when ltb 65535 (start + size) ∷ 19 when ltb room size ∷ []

-- the count of bytes that were read, or a refusal and none
unfoldable pub counting : Map → Lent → ℕ → ℕ → ℕ → Counted
counting m s start size n = cond (eqb n 0) (numbered 0 (length (read_bytes m s start size))) (numbered n 0)

unfoldable pub copying : Map → Lent → ℕ → ℕ → ℕ → List ℕ → List ℕ
copying m s start size n buffer = cond (eqb n 0) (over (read_bytes m s start size) buffer) buffer

-- 1 first
unfoldable pub read_number : Map → Lent → ℕ → ℕ → ℕ → ℕ
read_number m s start size room = first_of (1 when not (valid m s.dev) ∷ read_order start size room)

unfoldable pub read_out : Map → Lent → ℕ → ℕ → ℕ → Counted
read_out m s start size room = counting m s start size (read_number m s start size room)

unfoldable pub read_out_buffer : Map → Lent → ℕ → ℕ → List ℕ → List ℕ
read_out_buffer m s start size buffer = copying m s start size (read_number m s start size (length buffer)) buffer
