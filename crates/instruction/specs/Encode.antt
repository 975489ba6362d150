-- The word of an instruction: the low four bits, and each field masked to its width.
use Rattle.std.specs.Prelude.{ℕ, ◌+◌, Bool}
use Rattle.std.specs.Int.{from_bool}
use Rattle.fields.specs.Fields.{place_of}
use Rattle.instruction.specs.Codes.{register_code, arith_code, arithmetic_code, compare_code}
use Rattle.instruction.specs.declared.Register.{Register}
use Rattle.instruction.specs.declared.Operand.{Operand}
use Rattle.instruction.specs.declared.Operand.TheVariants.{Reg, Imm}
use Rattle.instruction.specs.declared.Instruction.{Instruction}
use Rattle.instruction.specs.declared.Instruction.TheVariants.{Noop, Mov, MovShift, Arith, ArithRegReg, LdrStr, LdbStb, Cpy, Jmp, CondJmp, Cmp, CallRet}

-- the register in the three bits from `at` on
abbrev pub register_in : Register → ℕ → ℕ
register_in r at = place_of (register_code r) at 3

-- 1 for true
abbrev pub bit : Bool → ℕ
bit b = from_bool b

-- the bit that says that an operand is a register, and the number that stands after it
abbrev pub mode : Operand → ℕ
mode (Reg r) = 1
mode (Imm v) = 0

abbrev pub value : Operand → ℕ
value (Reg r) = register_code r
value (Imm v) = v

abbrev pub encode : Instruction → ℕ
encode Noop = 0
encode (Mov d o) = 1 + register_in d 4 + place_of (mode o) 7 1 + place_of (value o) 8 8
encode (MovShift r amount left v) = 2 + register_in r 4 + place_of amount 7 3 + place_of (bit left) 10 1 + place_of v 11 5
encode (Arith d o k) = 3 + register_in d 4 + place_of (arith_code k) 7 2 + place_of (mode o) 9 1 + place_of (value o) 10 6
encode (LdrStr r a store shift) = 4 + register_in r 4 + register_in a 7 + place_of (bit store) 10 1 + place_of shift 11 5
encode (CondJmp o) = 5 + place_of (mode o) 4 1 + place_of (value o) 5 11
encode (Jmp o) = 6 + place_of (mode o) 4 1 + place_of (value o) 5 11
encode (Cmp r o k) = 7 + register_in r 4 + place_of (compare_code k) 7 3 + place_of (mode o) 10 1 + place_of (value o) 11 5
encode (LdbStb r a store shift) = 8 + register_in r 4 + register_in a 7 + place_of (bit store) 10 1 + place_of shift 11 5
encode (Cpy s t) = 9 + register_in s 4 + register_in t 7
encode (ArithRegReg d a b k) = 10 + register_in d 4 + place_of (arithmetic_code k) 7 3 + register_in a 10 + register_in b 13
encode (CallRet ret address) = 11 + place_of (bit ret) 4 1 + place_of address 5 11
