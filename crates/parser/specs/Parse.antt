-- What a line says: how many operands its mnemonic takes, then its operands from left to right.
use Rattle.std.specs.Prelude.{ℕ, List, [], ◌∷◌, Bool, true, false, Option, Some, None, eqb, leb, length}
use Rattle.base.specs.Choice.{cond}
use Rattle.base.specs.Told.{Told, is, no, ◌>>=◌}
use Rattle.instruction.specs.declared.ArithOp.{ArithOp}
use Rattle.instruction.specs.declared.ArithmeticOp.{ArithmeticOp}
use Rattle.instruction.specs.declared.CompareOp.{CompareOp}
use Rattle.instruction.specs.declared.Instruction.{Instruction}
use Rattle.instruction.specs.declared.Instruction.TheVariants.{Noop, Mov, MovShift, Arith, ArithRegReg, LdrStr, LdbStb, Cpy, Jmp, CondJmp, Cmp, CallRet}
use Rattle.instruction.specs.declared.Operand.{Operand}
use Rattle.instruction.specs.declared.Operand.TheVariants.{Reg, Imm}
use Rattle.instruction.specs.declared.Register.{Register}
use Rattle.mnemonics.specs.Mnemonics.{kind_of}
use Rattle.mnemonics.specs.declared.Kind.{Kind}
use Rattle.mnemonics.specs.declared.Kind.TheVariants as kind
use Rattle.text.specs.Immediates.{immediate}
use Rattle.parser.specs.declared.Reference.{Reference}
use Rattle.parser.specs.declared.Reference.TheVariants as reference
use Rattle.parser.specs.declared.brackets.Shift.{Shift}
use Rattle.parser.specs.declared.brackets.Address.{Address}
use Rattle.parser.specs.Answers.{Meaning, says, refers}
use Rattle.parser.specs.Operands.{first, second, hash, starts, register, comma_register, register_and_operand, three_registers, shift_operands, address}

-- ---- how many operands: MOV, CPY, compares 2; MSL, MSR, three-register forms 3; JMP, CJP, CALL 1; ADD to DIV at most 2,
-- LDR to STB at most 3; RET and DBG ignore them

unfoldable pub takes : Kind → ℕ → Bool
takes kind.Dbg n = true
takes kind.Ret n = true
takes kind.Mov n = eqb n 2
takes kind.Copy n = eqb n 2
takes (kind.Compare op) n = eqb n 2
takes (kind.MovShift left) n = eqb n 3
takes (kind.ArithRegReg op) n = eqb n 3
takes (kind.Jump conditional) n = eqb n 1
takes kind.Call n = eqb n 1
takes (kind.Arith op) n = leb n 2
takes (kind.Transfer byte store) n = leb n 3

-- ---- the operands of each mnemonic

-- an instruction of a register and an operand
abbrev pub saying : (Register → Operand → Instruction) → Register × Operand → Told Meaning
saying f (r, o) = is (says (f r o))

unfoldable pub mov : List (List ℕ) → Told Meaning
mov line = register_and_operand line >>= saying Mov

unfoldable pub arith : ArithOp → List (List ℕ) → Told Meaning
arith op line = register_and_operand line >>= saying (λ r o. Arith r o op)

unfoldable pub compare : CompareOp → List (List ℕ) → Told Meaning
compare op line = register_and_operand line >>= saying (λ r o. Cmp r o op)

unfoldable pub copy : List (List ℕ) → Told Meaning
copy line = do
  from ← first comma_register line
  to ← second register line
  is (says (Cpy from to))

abbrev pub combining : ArithmeticOp → Register × Register × Register → Told Meaning
combining op (d, a, b) = is (says (ArithRegReg d a b op))

unfoldable pub arith_reg_reg : ArithmeticOp → List (List ℕ) → Told Meaning
arith_reg_reg op line = three_registers line >>= combining op

-- left, else right
abbrev pub turning : Bool → Shift → Told Meaning
turning left s = is (says (MovShift s.register s.amount left s.immediate))

unfoldable pub mov_shift : Bool → List (List ℕ) → Told Meaning
mov_shift left line = shift_operands line >>= turning left

-- a byte, else a word
abbrev pub transferred : Bool → Register → Register → Bool → ℕ → Instruction
transferred true r a store shift = LdbStb r a store shift
transferred false r a store shift = LdrStr r a store shift

abbrev pub moving : Bool → Bool → Register → Address → Told Meaning
moving byte store r a = is (says (transferred byte r a.base store a.shift))

unfoldable pub transfer : Bool → Bool → List (List ℕ) → Told Meaning
transfer byte store line = do
  r ← first comma_register line
  a ← second (address line) line
  moving byte store r a

-- CJP, else JMP
abbrev pub jumping : Bool → Operand → Instruction
jumping true o = CondJmp o
jumping false o = Jmp o

abbrev pub waiting : Bool → Reference
waiting true = reference.CondJmp
waiting false = reference.Jmp

-- a register, else the label of this name
abbrev pub register_else : Bool → List ℕ → Told Register → Told Meaning
register_else conditional t (is r) = is (says (jumping conditional (Reg r)))
register_else conditional t (no n) = is (refers (waiting conditional) t)

-- `#`, register, label
unfoldable pub target : Bool → List ℕ → Told Meaning
target conditional t =
    cond (starts hash t) (immediate t >>= λ n. is (says (jumping conditional (Imm n)))) (register_else conditional t (register t))

-- `#`, label
unfoldable pub callee : List ℕ → Told Meaning
callee t = cond (starts hash t) (immediate t >>= λ n. is (says (CallRet false n))) (is (refers reference.Call t))

-- ---- the line

unfoldable pub meaning : Kind → List (List ℕ) → Told Meaning
meaning kind.Dbg line = is (says Noop)
meaning kind.Mov line = mov line
meaning (kind.MovShift left) line = mov_shift left line
meaning kind.Copy line = copy line
meaning (kind.Arith op) line = arith op line
meaning (kind.ArithRegReg op) line = arith_reg_reg op line
meaning (kind.Transfer byte store) line = transfer byte store line
meaning (kind.Jump conditional) line = first (target conditional) line
meaning (kind.Compare op) line = compare op line
meaning kind.Ret line = is (says (CallRet true 0))
meaning kind.Call line = first callee line

-- a line of this kind, if it has one, and with so many operands
abbrev pub counted : Option Kind → ℕ → List (List ℕ) → Told Meaning
counted None n line = no 22
counted (Some k) n line = cond (takes k n) (meaning k line) (no 22)

-- over the tokens of a line
unfoldable pub parse : List (List ℕ) → Told Meaning
parse [] = no 23
parse (mnemonic ∷ operands) = counted (kind_of mnemonic) (length operands) (mnemonic ∷ operands)
