-- A field fits where it does not exceed its width in the table; which form no word says, and which instruction no line says.
use Rattle.std.specs.Prelude.{ℕ, ◌^◌, Bool, true, false, not, ◌&&◌, ltb, eqb}
use Rattle.instruction.specs.Decode.{jumps_always}
use Rattle.instruction.specs.declared.Operand.{Operand}
use Rattle.instruction.specs.declared.Operand.TheVariants.{Reg, Imm}
use Rattle.instruction.specs.declared.Instruction.{Instruction}
use Rattle.instruction.specs.declared.Instruction.TheVariants.{Noop, Mov, MovShift, Arith, ArithRegReg, LdrStr, LdbStb, Cpy, Jmp, CondJmp, Cmp, CallRet}

abbrev pub within : ℕ → ℕ → Bool
within width v = ltb v (2 ^ width)

-- a register has three bits wherever it stands, and eight numbers
abbrev pub operand_fits : ℕ → Operand → Bool
operand_fits width (Reg r) = true
operand_fits width (Imm v) = within width v

abbrev pub fits : Instruction → Bool
fits Noop = true
fits (Mov d o) = operand_fits 8 o
fits (MovShift r amount left v) = within 3 amount && within 5 v
fits (Arith d o k) = operand_fits 6 o
fits (LdrStr r a store shift) = within 5 shift
fits (CondJmp o) = operand_fits 11 o
fits (Jmp o) = operand_fits 11 o
fits (Cmp r o k) = operand_fits 5 o
fits (LdbStb r a store shift) = within 5 shift
fits (Cpy s t) = true
fits (ArithRegReg d a b k) = true
fits (CallRet ret address) = within 11 address

-- a register-mode CondJmp decodes to Jmp, so no word says it; every other form is one that decoding answers with
abbrev pub decodable : Instruction → Bool
decodable Noop = true
decodable (Mov d o) = true
decodable (MovShift r amount left v) = true
decodable (Arith d o k) = true
decodable (LdrStr r a store shift) = true
decodable (CondJmp o) = not (jumps_always o)
decodable (Jmp o) = true
decodable (Cmp r o k) = true
decodable (LdbStb r a store shift) = true
decodable (Cpy s t) = true
decodable (ArithRegReg d a b k) = true
decodable (CallRet ret address) = true

-- RET takes no operand
abbrev pub plain_return : Bool → ℕ → Bool
plain_return true address = eqb address 0
plain_return false address = true

-- no line says a return with an address; every other instruction whose fields fit is one that a line says
abbrev pub sayable : Instruction → Bool
sayable Noop = true
sayable (Mov d o) = true
sayable (MovShift r amount left v) = true
sayable (Arith d o k) = true
sayable (LdrStr r a store shift) = true
sayable (CondJmp o) = true
sayable (Jmp o) = true
sayable (Cmp r o k) = true
sayable (LdbStb r a store shift) = true
sayable (Cpy s t) = true
sayable (ArithRegReg d a b k) = true
sayable (CallRet ret address) = plain_return ret address
