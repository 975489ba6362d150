-- The bits of FLAGS. 65,527 is every bit but bit 3.
use Rattle.std.specs.Prelude.{ℕ, Bool, eqb}
use Rattle.std.specs.Int.Bits.{bit_and, bit_or}
use Rattle.base.specs.Choice.{cond}
use Rattle.fields.specs.Fields.{field_of}

-- the bit is set
unfoldable pub flag : ℕ → ℕ → Bool
flag flags bit = eqb (field_of flags bit 1) 1

-- a true compare sets bit 3, a false one clears it
unfoldable pub compared : ℕ → Bool → ℕ
compared flags t = cond t (bit_or flags 8) (bit_and flags 65527)

-- a failed store or Cpy sets bits 0 and 2
unfoldable pub failed : ℕ → ℕ
failed flags = bit_or flags 5
