-- The text of an instruction, by an edition of the instruction set: the editions differ in MSL and MSR alone. Noop is NOOP.
use Rattle.std.specs.Prelude.{ℕ, zero, suc, ◌+◌, ◌/◌, ◌%◌, Bool, true, false, List, [], ◌∷◌, ◌++◌, ltb, eqb}
pub use Rattle.base.specs.Bytes.{bytes}
use Rattle.base.specs.Choice.{cond}
use Rattle.instruction.specs.declared.Edition.{Edition}
use Rattle.instruction.specs.declared.Edition.TheVariants.{First, Second}
use Rattle.instruction.specs.declared.Register.{Register}
use Rattle.instruction.specs.declared.Register.TheVariants.{A, B, C, M, SP, PC, BP, FLAGS}
use Rattle.instruction.specs.declared.Operand.{Operand}
use Rattle.instruction.specs.declared.Operand.TheVariants.{Reg, Imm}
use Rattle.instruction.specs.declared.ArithOp.{ArithOp}
use Rattle.instruction.specs.declared.ArithOp.TheVariants as four
use Rattle.instruction.specs.declared.ArithmeticOp.{ArithmeticOp}
use Rattle.instruction.specs.declared.ArithmeticOp.TheVariants as seven
use Rattle.instruction.specs.declared.CompareOp.{CompareOp}
use Rattle.instruction.specs.declared.CompareOp.TheVariants.{Eq, NotEq, Less, LessEq, Greater, GreaterEq}
use Rattle.instruction.specs.declared.Instruction.{Instruction}
use Rattle.instruction.specs.declared.Instruction.TheVariants.{Noop, Mov, MovShift, Arith, ArithRegReg, LdrStr, LdbStb, Cpy, Jmp, CondJmp, Cmp, CallRet}

-- ---- numbers

abbrev pub digit : ℕ → ℕ
digit d = 48 + d

-- the digits of n, at most k of them: those of the tens, then the last
unfoldable pub digits : ℕ → ℕ → List ℕ
digits zero n = []
digits (suc k) n = cond (ltb n 10) (digit n ∷ []) (digits k (n / 10) ++ (digit (n % 10) ∷ []))

-- a number of sixteen bits has no more than five
unfoldable pub decimal_of : ℕ → List ℕ
decimal_of n = digits 5 n

unfoldable pub immediate_of : ℕ → List ℕ
immediate_of n = bytes "#" ++ decimal_of n

-- ---- names

unfoldable pub register_name : Register → List ℕ
register_name A = bytes "A"
register_name B = bytes "B"
register_name C = bytes "C"
register_name M = bytes "M"
register_name SP = bytes "SP"
register_name PC = bytes "PC"
register_name BP = bytes "BP"
register_name FLAGS = bytes "FLAGS"

unfoldable pub arith_name : ArithOp → List ℕ
arith_name four.Add = bytes "ADD"
arith_name four.Sub = bytes "SUB"
arith_name four.Mul = bytes "MUL"
arith_name four.Div = bytes "DIV"

unfoldable pub arithmetic_name : ArithmeticOp → List ℕ
arithmetic_name seven.Add = bytes "ADDR"
arithmetic_name seven.Sub = bytes "SUBR"
arithmetic_name seven.Mul = bytes "MULR"
arithmetic_name seven.Div = bytes "DIVR"
arithmetic_name seven.Mod = bytes "MODR"
arithmetic_name seven.Exp = bytes "EXPR"
arithmetic_name seven.Sqrt = bytes "SQRTR"

unfoldable pub compare_name : CompareOp → List ℕ
compare_name Eq = bytes "EQ"
compare_name NotEq = bytes "NEQ"
compare_name Less = bytes "LT"
compare_name LessEq = bytes "LTE"
compare_name Greater = bytes "GT"
compare_name GreaterEq = bytes "GTE"

-- left, else right
unfoldable pub shift_name : Bool → List ℕ
shift_name true = bytes "MSL"
shift_name false = bytes "MSR"

-- store, else load
unfoldable pub word_name : Bool → List ℕ
word_name true = bytes "STR"
word_name false = bytes "LDR"

-- the same for a byte
unfoldable pub byte_name : Bool → List ℕ
byte_name true = bytes "STB"
byte_name false = bytes "LDB"

-- ---- what stands after a mnemonic, from the space on

-- a name, or # and the number
unfoldable pub operand_of : Operand → List ℕ
operand_of (Reg r) = register_name r
operand_of (Imm n) = immediate_of n

-- an operand alone
unfoldable pub one : Operand → List ℕ
one o = bytes " " ++ operand_of o

-- a register and an operand
unfoldable pub pair : Register → Operand → List ℕ
pair r o = bytes " " ++ register_name r ++ bytes ", " ++ operand_of o

-- three registers
unfoldable pub three : Register → Register → Register → List ℕ
three d a b = pair d (Reg a) ++ bytes ", " ++ register_name b

-- two numbers in brackets
unfoldable pub bracketed : ℕ → ℕ → List ℕ
bracketed first second = bytes "[" ++ immediate_of first ++ bytes " " ++ immediate_of second ++ bytes "]"

-- a register and two numbers
unfoldable pub shifted : Register → ℕ → ℕ → List ℕ
shifted r first second = bytes " " ++ register_name r ++ bytes ", " ++ bracketed first second

-- the amount first; in edition 2 the immediate first, as the parser reads them
unfoldable pub turned : Edition → Register → ℕ → ℕ → List ℕ
turned First r amount imm = shifted r amount imm
turned Second r amount imm = shifted r imm amount

-- an address register, in brackets with its shift where that is not 0
unfoldable pub address_of : Register → ℕ → List ℕ
address_of a shift = cond (eqb shift 0) (register_name a) (bytes "[" ++ register_name a ++ bytes " " ++ immediate_of shift ++ bytes "]")

-- a register and an address
unfoldable pub addressed : Register → Register → ℕ → List ℕ
addressed r a shift = bytes " " ++ register_name r ++ bytes ", " ++ address_of a shift

-- return, else call
unfoldable pub call_text : Bool → ℕ → List ℕ
call_text true a = bytes "RET"
call_text false a = bytes "CALL" ++ one (Imm a)

-- ---- instructions

unfoldable pub text_in : Edition → Instruction → List ℕ
text_in e Noop = bytes "NOOP"
text_in e (Mov d o) = bytes "MOV" ++ pair d o
text_in e (MovShift r amount left imm) = shift_name left ++ turned e r amount imm
text_in e (Arith d o op) = arith_name op ++ pair d o
text_in e (ArithRegReg d a b op) = arithmetic_name op ++ three d a b
text_in e (LdrStr r a store shift) = word_name store ++ addressed r a shift
text_in e (LdbStb r a store shift) = byte_name store ++ addressed r a shift
text_in e (Cpy a b) = bytes "CPY" ++ pair a (Reg b)
text_in e (Jmp o) = bytes "JMP" ++ one o
text_in e (CondJmp o) = bytes "CJP" ++ one o
text_in e (Cmp r o op) = compare_name op ++ pair r o
text_in e (CallRet ret a) = call_text ret a

-- as a listing shows it
abbrev pub text : Instruction → List ℕ
text i = text_in First i
