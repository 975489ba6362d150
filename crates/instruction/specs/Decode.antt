-- What a word says, by its low four bits. Bits not named are ignored; register-mode 5 decodes to Jmp.
use Rattle.std.specs.Prelude.{ℕ, ◌+◌, Bool, true, false, List, [], ◌∷◌, get_or, eqb, ltb}
use Rattle.base.specs.Choice.{cond}
use Rattle.base.specs.Told.{Told, is, no}
use Rattle.fields.specs.Fields.{field_of}
use Rattle.instruction.specs.Codes.{register_of, arith_of, arithmetic_of, compare_of}
use Rattle.instruction.specs.declared.Register.{Register}
use Rattle.instruction.specs.declared.Operand.{Operand}
use Rattle.instruction.specs.declared.Operand.TheVariants.{Reg, Imm}
use Rattle.instruction.specs.declared.Instruction.{Instruction}
use Rattle.instruction.specs.declared.Instruction.TheVariants.{Noop, Mov, MovShift, Arith, ArithRegReg, LdrStr, LdbStb, Cpy, Jmp, CondJmp, Cmp, CallRet}

-- the register in the three bits from `at` on
abbrev pub register_at : ℕ → ℕ → Register
register_at w at = register_of (field_of w at 3)

abbrev pub bit_at : ℕ → ℕ → Bool
bit_at w at = eqb (field_of w at 1) 1

-- bit `at` set: the register in the three bits after it; else the immediate in the `width` bits after it
abbrev pub operand_at : ℕ → ℕ → ℕ → Operand
operand_at w at width = cond (bit_at w at) (Reg (register_at w (at + 1))) (Imm (field_of w (at + 1) width))

-- 5 in register mode is a Jmp
abbrev pub jumps_always : Operand → Bool
jumps_always (Reg r) = true
jumps_always (Imm v) = false

abbrev pub conditional : Operand → Instruction
conditional o = cond (jumps_always o) (Jmp o) (CondJmp o)

-- the arms by the low four bits, 0 to 11; compare 6 and 7 are refused with 5, operator 7 of ArithRegReg with 6
unfoldable pub arms : ℕ → List (Told Instruction)
arms w =
    is Noop
    ∷ is (Mov (register_at w 4) (operand_at w 7 8))
    ∷ is (MovShift (register_at w 4) (field_of w 7 3) (bit_at w 10) (field_of w 11 5))
    ∷ is (Arith (register_at w 4) (operand_at w 9 6) (arith_of (field_of w 7 2)))
    ∷ is (LdrStr (register_at w 4) (register_at w 7) (bit_at w 10) (field_of w 11 5))
    ∷ is (conditional (operand_at w 4 11))
    ∷ is (Jmp (operand_at w 4 11))
    ∷ cond (ltb (field_of w 7 3) 6) (is (Cmp (register_at w 4) (operand_at w 10 5) (compare_of (field_of w 7 3)))) (no 5)
    ∷ is (LdbStb (register_at w 4) (register_at w 7) (bit_at w 10) (field_of w 11 5))
    ∷ is (Cpy (register_at w 4) (register_at w 7))
    ∷ cond (ltb (field_of w 7 3) 7) (is (ArithRegReg (register_at w 4) (register_at w 10) (register_at w 13) (arithmetic_of (field_of w 7 3)))) (no 6)
    ∷ is (CallRet (bit_at w 4) (field_of w 5 11))
    ∷ []

-- 12 to 15 are refused with 4
unfoldable pub arm : ℕ → ℕ → Told Instruction
arm w op = get_or (arms w) op (no 4)

unfoldable pub decode : ℕ → Told Instruction
decode w = arm w (field_of w 0 4)
