-- What MovShift leaves in its register: the number shifted, the bits that leave it dropped, and the immediate's bits set.
use Rattle.std.specs.Prelude.{ℕ, ◌*◌, ◌/◌, ◌%◌, ◌^◌, Bool}
use Rattle.std.specs.Int.Bits.{bit_or}
use Rattle.base.specs.Choice.{cond}

unfoldable pub shifted : ℕ → ℕ → Bool → ℕ
shifted v amount left = cond left (v * 2 ^ amount % 65536) (v / 2 ^ amount)

unfoldable pub moved : ℕ → ℕ → Bool → ℕ → ℕ
moved v amount left imm = bit_or (shifted v amount left) imm
