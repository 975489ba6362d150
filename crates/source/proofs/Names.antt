-- Every name that the printer writes is a plain token and is read as what it names, NOOP apart, which finds no row: each is computed and looked up, by the definitions of the
-- crates below. Assumes nothing.
use mathlib.Core.Path.{◌≡◌, refl}
use mathlib.Core.Bool.{Bool, true, false}
use mathlib.Core.List.{List, [], ◌∷◌, ◌++◌}
use Prim.Native.Nat.{ℕ}
use Rattle.std.specs.Prelude.{Option, Some, None}
use Rattle.base.specs.Bytes.{bytes}
use Rattle.base.specs.Told.{is}
use Rattle.instruction.specs.declared.Register.{Register}
use Rattle.instruction.specs.declared.Register.TheVariants.{A, B, C, M, SP, PC, BP, FLAGS}
use Rattle.instruction.specs.declared.ArithOp.TheVariants as four
use Rattle.instruction.specs.declared.ArithmeticOp.TheVariants as seven
use Rattle.instruction.specs.declared.CompareOp.TheVariants.{Eq, NotEq, Less, LessEq, Greater, GreaterEq}
use Rattle.instruction.specs.declared.Instruction.{Instruction}
use Rattle.instruction.specs.declared.Instruction.TheVariants.{Noop, Mov, MovShift, Arith, ArithRegReg, LdrStr, LdbStb, Cpy, Jmp, CondJmp, Cmp, CallRet}
use Rattle.text.specs.Parts.{equals, drop_front}
use Rattle.text.proofs.JoinedLaws.{is_plain, every}
use Rattle.printer.specs.Text.{register_name, arith_name, arithmetic_name, compare_name, shift_name, word_name, byte_name}
use Rattle.mnemonics.specs.Mnemonics.{rows, upper, kind_of}
use Rattle.mnemonics.specs.declared.Kind.{Kind}
use Rattle.mnemonics.specs.declared.Kind.TheVariants as kind
use Rattle.parser.specs.Operands.{starts, register_names, register, comma_register}

-- one plain byte or more
abbrev pub is_token : List ℕ → Bool
is_token [] = false
is_token (x ∷ xs) = every is_plain (x ∷ xs)

-- ---- registers

-- alone, with a comma behind it or a bracket before it; and it starts with neither `#` nor `[`
pub record Known (r : Register) : Type 0 where
  pub alone : register (register_name r) ≡ is r
  pub comma : comma_register (register_name r ++ 44 ∷ []) ≡ is r
  pub opened : drop_front (equals 91) (91 ∷ register_name r) ≡ register_name r
  pub no-hash : starts 35 (register_name r) ≡ false
  pub no-bracket : starts 91 (register_name r) ≡ false
  pub token : is_token (register_name r) ≡ true

pub known : (r : Register) → Known r
unfolding register register_names register_name is_plain
known A = record { alone = refl; comma = refl; opened = refl; no-hash = refl; no-bracket = refl; token = refl }
known B = record { alone = refl; comma = refl; opened = refl; no-hash = refl; no-bracket = refl; token = refl }
known C = record { alone = refl; comma = refl; opened = refl; no-hash = refl; no-bracket = refl; token = refl }
known M = record { alone = refl; comma = refl; opened = refl; no-hash = refl; no-bracket = refl; token = refl }
known SP = record { alone = refl; comma = refl; opened = refl; no-hash = refl; no-bracket = refl; token = refl }
known PC = record { alone = refl; comma = refl; opened = refl; no-hash = refl; no-bracket = refl; token = refl }
known BP = record { alone = refl; comma = refl; opened = refl; no-hash = refl; no-bracket = refl; token = refl }
known FLAGS = record { alone = refl; comma = refl; opened = refl; no-hash = refl; no-bracket = refl; token = refl }

-- the printer's names of registers are the parser's
pub register-back : (r : Register) → register (register_name r) ≡ is r
register-back r = (known r).alone

pub comma-back : (r : Register) → comma_register (register_name r ++ 44 ∷ []) ≡ is r
comma-back r = (known r).comma

-- ---- mnemonics

abbrev pub name_of : Instruction → List ℕ
name_of Noop = bytes "NOOP"
name_of (Mov d o) = bytes "MOV"
name_of (MovShift r amount left imm) = shift_name left
name_of (Arith d o op) = arith_name op
name_of (ArithRegReg d a b op) = arithmetic_name op
name_of (LdrStr r a store shift) = word_name store
name_of (LdbStb r a store shift) = byte_name store
name_of (Cpy a b) = bytes "CPY"
name_of (Jmp o) = bytes "JMP"
name_of (CondJmp o) = bytes "CJP"
name_of (Cmp r o op) = compare_name op
name_of (CallRet true a) = bytes "RET"
name_of (CallRet false a) = bytes "CALL"

-- the row of the mnemonic table that it is to find, its own; NOOP is no row's name
abbrev pub kind_for : Instruction → Option Kind
kind_for Noop = None
kind_for (Mov d o) = Some kind.Mov
kind_for (MovShift r amount left imm) = Some (kind.MovShift left)
kind_for (Arith d o op) = Some (kind.Arith op)
kind_for (ArithRegReg d a b op) = Some (kind.ArithRegReg op)
kind_for (LdrStr r a store shift) = Some (kind.Transfer false store)
kind_for (LdbStb r a store shift) = Some (kind.Transfer true store)
kind_for (Cpy a b) = Some kind.Copy
kind_for (Jmp o) = Some (kind.Jump false)
kind_for (CondJmp o) = Some (kind.Jump true)
kind_for (Cmp r o op) = Some (kind.Compare op)
kind_for (CallRet true a) = Some kind.Ret
kind_for (CallRet false a) = Some kind.Call

pub named : (i : Instruction) → (kind_of (name_of i) ≡ kind_for i) × (is_token (name_of i) ≡ true)
unfolding arith_name arithmetic_name compare_name shift_name word_name byte_name rows upper kind_of is_plain
named Noop = (refl, refl)
named (Mov d o) = (refl, refl)
named (MovShift r amount true imm) = (refl, refl)
named (MovShift r amount false imm) = (refl, refl)
named (Arith d o four.Add) = (refl, refl)
named (Arith d o four.Sub) = (refl, refl)
named (Arith d o four.Mul) = (refl, refl)
named (Arith d o four.Div) = (refl, refl)
named (ArithRegReg d a b seven.Add) = (refl, refl)
named (ArithRegReg d a b seven.Sub) = (refl, refl)
named (ArithRegReg d a b seven.Mul) = (refl, refl)
named (ArithRegReg d a b seven.Div) = (refl, refl)
named (ArithRegReg d a b seven.Mod) = (refl, refl)
named (ArithRegReg d a b seven.Exp) = (refl, refl)
named (ArithRegReg d a b seven.Sqrt) = (refl, refl)
named (LdrStr r a true shift) = (refl, refl)
named (LdrStr r a false shift) = (refl, refl)
named (LdbStb r a true shift) = (refl, refl)
named (LdbStb r a false shift) = (refl, refl)
named (Cpy a b) = (refl, refl)
named (Jmp o) = (refl, refl)
named (CondJmp o) = (refl, refl)
named (Cmp r o Eq) = (refl, refl)
named (Cmp r o NotEq) = (refl, refl)
named (Cmp r o Less) = (refl, refl)
named (Cmp r o LessEq) = (refl, refl)
named (Cmp r o Greater) = (refl, refl)
named (Cmp r o GreaterEq) = (refl, refl)
named (CallRet true a) = (refl, refl)
named (CallRet false a) = (refl, refl)

pub dbg-kind : kind_of (bytes "DBG") ≡ Some kind.Dbg
unfolding rows upper kind_of
dbg-kind = refl
