-- Registers A B C M SP PC BP FLAGS are 0 to 7; an operator's number is its place in its list.
use Rattle.std.specs.Prelude.{ℕ, List, [], ◌∷◌, get_or}
use Rattle.instruction.specs.declared.Register.{Register}
use Rattle.instruction.specs.declared.Register.TheVariants.{A, B, C, M, SP, PC, BP, FLAGS}
use Rattle.instruction.specs.declared.ArithOp.{ArithOp}
use Rattle.instruction.specs.declared.ArithmeticOp.{ArithmeticOp}
use Rattle.instruction.specs.declared.CompareOp.{CompareOp}
use Rattle.instruction.specs.declared.CompareOp.TheVariants.{Eq, NotEq, Less, LessEq, Greater, GreaterEq}

abbrev pub registers : List Register
registers = A ∷ B ∷ C ∷ M ∷ SP ∷ PC ∷ BP ∷ FLAGS ∷ []

abbrev pub ariths : List ArithOp
ariths = ArithOp.Add ∷ ArithOp.Sub ∷ ArithOp.Mul ∷ ArithOp.Div ∷ []

abbrev pub arithmetics : List ArithmeticOp
arithmetics =
    ArithmeticOp.Add
    ∷ ArithmeticOp.Sub
    ∷ ArithmeticOp.Mul
    ∷ ArithmeticOp.Div
    ∷ ArithmeticOp.Mod
    ∷ ArithmeticOp.Exp
    ∷ ArithmeticOp.Sqrt
    ∷ []

abbrev pub compares : List CompareOp
compares = Eq ∷ NotEq ∷ Less ∷ LessEq ∷ Greater ∷ GreaterEq ∷ []

-- what stands at a number; the last of its list where the list ends before it
abbrev pub register_of : ℕ → Register
register_of n = get_or registers n FLAGS

abbrev pub arith_of : ℕ → ArithOp
arith_of n = get_or ariths n ArithOp.Div

abbrev pub arithmetic_of : ℕ → ArithmeticOp
arithmetic_of n = get_or arithmetics n ArithmeticOp.Sqrt

abbrev pub compare_of : ℕ → CompareOp
compare_of n = get_or compares n GreaterEq

-- the number that each stands at; proofs/CodeLaws.antt shows that these are the lists' places
abbrev pub register_code : Register → ℕ
register_code A = 0
register_code B = 1
register_code C = 2
register_code M = 3
register_code SP = 4
register_code PC = 5
register_code BP = 6
register_code FLAGS = 7

abbrev pub arith_code : ArithOp → ℕ
arith_code ArithOp.Add = 0
arith_code ArithOp.Sub = 1
arith_code ArithOp.Mul = 2
arith_code ArithOp.Div = 3

abbrev pub arithmetic_code : ArithmeticOp → ℕ
arithmetic_code ArithmeticOp.Add = 0
arithmetic_code ArithmeticOp.Sub = 1
arithmetic_code ArithmeticOp.Mul = 2
arithmetic_code ArithmeticOp.Div = 3
arithmetic_code ArithmeticOp.Mod = 4
arithmetic_code ArithmeticOp.Exp = 5
arithmetic_code ArithmeticOp.Sqrt = 6

abbrev pub compare_code : CompareOp → ℕ
compare_code Eq = 0
compare_code NotEq = 1
compare_code Less = 2
compare_code LessEq = 3
compare_code Greater = 4
compare_code GreaterEq = 5
