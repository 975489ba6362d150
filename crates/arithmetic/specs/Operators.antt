-- What an operator of Arith, and one of ArithRegReg, does with two numbers. A root is of the first one.
use Rattle.std.specs.Prelude.{ℕ}
use Rattle.base.specs.Told.{Told, is}
use Rattle.instruction.specs.declared.ArithOp.{ArithOp}
use Rattle.instruction.specs.declared.ArithOp.TheVariants as four
use Rattle.instruction.specs.declared.ArithmeticOp.{ArithmeticOp}
use Rattle.instruction.specs.declared.ArithmeticOp.TheVariants as seven
use Rattle.arithmetic.specs.Totals.{sum, difference, product, quotient, remainder, power}
use Rattle.arithmetic.specs.Roots.{root}

unfoldable pub arith_result : ArithOp → ℕ → ℕ → Told ℕ
arith_result four.Add a b = sum a b
arith_result four.Sub a b = difference a b
arith_result four.Mul a b = product a b
arith_result four.Div a b = quotient a b

unfoldable pub arithmetic_result : ArithmeticOp → ℕ → ℕ → Told ℕ
arithmetic_result seven.Add a b = sum a b
arithmetic_result seven.Sub a b = difference a b
arithmetic_result seven.Mul a b = product a b
arithmetic_result seven.Div a b = quotient a b
arithmetic_result seven.Mod a b = remainder a b
arithmetic_result seven.Exp a b = power a b
arithmetic_result seven.Sqrt a b = is (root a)
