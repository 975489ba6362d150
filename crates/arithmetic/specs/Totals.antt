-- 7, ArithOverflow: the true result is outside 0 to 65,535. 8, DivideByZero.
use Rattle.std.specs.Prelude.{ℕ, ◌+◌, ◌-◌, ◌*◌, ◌/◌, ◌%◌, ◌^◌, eqb, leb}
use Rattle.base.specs.Choice.{cond}
use Rattle.base.specs.Told.{Told, is, no}

-- a true result, where it fits
unfoldable pub fitted : ℕ → Told ℕ
fitted n = cond (leb n 65535) (is n) (no 7)

unfoldable pub sum : ℕ → ℕ → Told ℕ
sum a b = fitted (a + b)

unfoldable pub difference : ℕ → ℕ → Told ℕ
difference a b = cond (leb b a) (is (a - b)) (no 7)

unfoldable pub product : ℕ → ℕ → Told ℕ
product a b = fitted (a * b)

unfoldable pub quotient : ℕ → ℕ → Told ℕ
quotient a b = cond (eqb b 0) (no 8) (is (a / b))

unfoldable pub remainder : ℕ → ℕ → Told ℕ
remainder a b = cond (eqb b 0) (no 8) (is (a % b))

-- 0 to the power 0 is 1
unfoldable pub power : ℕ → ℕ → Told ℕ
power a b = fitted (a ^ b)
