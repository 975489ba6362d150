-- The thirty mnemonics, and the kind of a token: that of the row whose name the token is, in either case.
use Rattle.std.specs.Prelude.{ℕ, ◌-◌, true, false, ◌&&◌, List, [], ◌∷◌, Option, Some, None, map, leb}
use Rattle.base.specs.Bytes.{bytes, same}
use Rattle.base.specs.Choice.{cond}
use Rattle.instruction.specs.declared.ArithOp.TheVariants as four
use Rattle.instruction.specs.declared.ArithmeticOp.TheVariants as seven
use Rattle.instruction.specs.declared.CompareOp.TheVariants.{Eq, NotEq, Less, LessEq, Greater, GreaterEq}
use Rattle.mnemonics.specs.Tables.{Row, row, first_row}
use Rattle.mnemonics.specs.declared.Kind.{Kind}
use Rattle.mnemonics.specs.declared.Kind.TheVariants.{Dbg, Mov, MovShift, Copy, Arith, ArithRegReg, Transfer, Jump, Compare, Ret, Call}

unfoldable pub rows : List (Row Kind)
rows =
    row (bytes "DBG") Dbg
    ∷ row (bytes "MOV") Mov
    ∷ row (bytes "MSL") (MovShift true)
    ∷ row (bytes "MSR") (MovShift false)
    ∷ row (bytes "CPY") Copy
    ∷ row (bytes "ADD") (Arith four.Add)
    ∷ row (bytes "SUB") (Arith four.Sub)
    ∷ row (bytes "MUL") (Arith four.Mul)
    ∷ row (bytes "DIV") (Arith four.Div)
    ∷ row (bytes "ADDR") (ArithRegReg seven.Add)
    ∷ row (bytes "SUBR") (ArithRegReg seven.Sub)
    ∷ row (bytes "MULR") (ArithRegReg seven.Mul)
    ∷ row (bytes "DIVR") (ArithRegReg seven.Div)
    ∷ row (bytes "MODR") (ArithRegReg seven.Mod)
    ∷ row (bytes "EXPR") (ArithRegReg seven.Exp)
    ∷ row (bytes "SQRTR") (ArithRegReg seven.Sqrt)
    ∷ row (bytes "LDR") (Transfer false false)
    ∷ row (bytes "STR") (Transfer false true)
    ∷ row (bytes "LDB") (Transfer true false)
    ∷ row (bytes "STB") (Transfer true true)
    ∷ row (bytes "JMP") (Jump false)
    ∷ row (bytes "CJP") (Jump true)
    ∷ row (bytes "EQ") (Compare Eq)
    ∷ row (bytes "NEQ") (Compare NotEq)
    ∷ row (bytes "LT") (Compare Less)
    ∷ row (bytes "LTE") (Compare LessEq)
    ∷ row (bytes "GT") (Compare Greater)
    ∷ row (bytes "GTE") (Compare GreaterEq)
    ∷ row (bytes "RET") Ret
    ∷ row (bytes "CALL") Call
    ∷ []

-- a letter in upper case; any other byte as it is
unfoldable pub upper : ℕ → ℕ
upper b = cond (leb 97 b && leb b 122) (b - 32) b

-- the kind of the first row with this name, if there is one
abbrev pub kind_in : List (Row Kind) → List ℕ → Option Kind
kind_in rs name = first_row (λ (r : Row Kind). same name r.name) (λ (r : Row Kind). Some r.value) None rs

unfoldable pub kind_of : List ℕ → Option Kind
kind_of token = kind_in rows (map upper token)
