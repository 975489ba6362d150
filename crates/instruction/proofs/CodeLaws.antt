-- Each number is the place of what it stands for in its list: entry by entry. Assumes nothing.
use Prim.Native.Nat.{◌<◌}
use mathlib.Core.Path.{◌≡◌, refl}
use native.Mathlib.Omega.{arith}
use Rattle.instruction.specs.Codes.{register_of, arith_of, arithmetic_of, compare_of, register_code, arith_code, arithmetic_code, compare_code}
use Rattle.instruction.specs.declared.Register.{Register}
use Rattle.instruction.specs.declared.Register.TheVariants.{A, B, C, M, SP, PC, BP, FLAGS}
use Rattle.instruction.specs.declared.ArithOp.{ArithOp}
use Rattle.instruction.specs.declared.ArithmeticOp.{ArithmeticOp}
use Rattle.instruction.specs.declared.CompareOp.{CompareOp}
use Rattle.instruction.specs.declared.CompareOp.TheVariants.{Eq, NotEq, Less, LessEq, Greater, GreaterEq}

pub register-back : (r : Register) → register_of (register_code r) ≡ r
register-back A = refl
register-back B = refl
register-back C = refl
register-back M = refl
register-back SP = refl
register-back PC = refl
register-back BP = refl
register-back FLAGS = refl

pub arith-back : (k : ArithOp) → arith_of (arith_code k) ≡ k
arith-back ArithOp.Add = refl
arith-back ArithOp.Sub = refl
arith-back ArithOp.Mul = refl
arith-back ArithOp.Div = refl

pub arithmetic-back : (k : ArithmeticOp) → arithmetic_of (arithmetic_code k) ≡ k
arithmetic-back ArithmeticOp.Add = refl
arithmetic-back ArithmeticOp.Sub = refl
arithmetic-back ArithmeticOp.Mul = refl
arithmetic-back ArithmeticOp.Div = refl
arithmetic-back ArithmeticOp.Mod = refl
arithmetic-back ArithmeticOp.Exp = refl
arithmetic-back ArithmeticOp.Sqrt = refl

pub compare-back : (k : CompareOp) → compare_of (compare_code k) ≡ k
compare-back Eq = refl
compare-back NotEq = refl
compare-back Less = refl
compare-back LessEq = refl
compare-back Greater = refl
compare-back GreaterEq = refl

pub register-lt : (r : Register) → register_code r < 8
register-lt A = omega arith
register-lt B = omega arith
register-lt C = omega arith
register-lt M = omega arith
register-lt SP = omega arith
register-lt PC = omega arith
register-lt BP = omega arith
register-lt FLAGS = omega arith

pub arith-lt : (k : ArithOp) → arith_code k < 4
arith-lt ArithOp.Add = omega arith
arith-lt ArithOp.Sub = omega arith
arith-lt ArithOp.Mul = omega arith
arith-lt ArithOp.Div = omega arith

pub arithmetic-lt : (k : ArithmeticOp) → arithmetic_code k < 7
arithmetic-lt ArithmeticOp.Add = omega arith
arithmetic-lt ArithmeticOp.Sub = omega arith
arithmetic-lt ArithmeticOp.Mul = omega arith
arithmetic-lt ArithmeticOp.Div = omega arith
arithmetic-lt ArithmeticOp.Mod = omega arith
arithmetic-lt ArithmeticOp.Exp = omega arith
arithmetic-lt ArithmeticOp.Sqrt = omega arith

pub compare-lt : (k : CompareOp) → compare_code k < 6
compare-lt Eq = omega arith
compare-lt NotEq = omega arith
compare-lt Less = omega arith
compare-lt LessEq = omega arith
compare-lt Greater = omega arith
compare-lt GreaterEq = omega arith
