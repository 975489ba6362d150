-- "Marked for proof": what the definitions say, and what document 01 says. That the two sides agree is one statement
-- (proofs/MarkedLaw.antt).
use Rattle.std.specs.Prelude.{ℕ, true, List, [], ◌∷◌}
use Rattle.base.specs.Told.{Told, is, no}
use Rattle.instruction.specs.Decode.{decode}
use Rattle.instruction.specs.Encode.{encode}
use Rattle.instruction.specs.declared.Instruction.{Instruction}
use Rattle.instruction.specs.declared.Instruction.TheVariants.{Mov, LdrStr, CondJmp, Jmp, ArithRegReg}
use Rattle.instruction.specs.declared.Register.TheVariants.{A, B, C}
use Rattle.instruction.specs.declared.Operand.TheVariants.{Reg, Imm}
use Rattle.instruction.specs.declared.ArithmeticOp.TheVariants.{Sqrt}
use Rattle.arithmetic.specs.Operators.{arithmetic_result}

-- a word, what a word decodes to, or what an operator comes to
pub data Says : Type 0 where
  word : ℕ → Says
  decodes : Told Instruction → Says
  comes : Told ℕ → Says

pub record Row : Type 0 where
  pub ours : Says
  pub theirs : Says

abbrev pub row : Says → Says → Row
row a b = record { ours = a; theirs = b }

abbrev pub marked : List Row
marked =
    row (word (encode (Mov A (Imm 5)))) (word 0x0501)
    ∷ row (word (encode (Mov C (Imm 300)))) (word 0x2C21)
    ∷ row (word (encode (Jmp (Imm 2047)))) (word 0xFFE6)
    ∷ row (word (encode (Jmp (Imm 2048)))) (word 0x0006)
    ∷ row (word (encode (CondJmp (Reg A)))) (word 0x0015)
    ∷ row (decodes (decode 0x0015)) (decodes (is (Jmp (Reg A))))
    ∷ row (word (encode (ArithRegReg A B C Sqrt))) (word 0x470A)
    ∷ row (word (encode (LdrStr A B true 31))) (word 0xFC84)
    ∷ row (decodes (decode 0x000C)) (decodes (no 4))
    ∷ row (decodes (decode 0x0307)) (decodes (no 5))
    ∷ row (decodes (decode 0x038A)) (decodes (no 6))
    ∷ row (comes (arithmetic_result Sqrt 65024 0)) (comes (is 254))
    ∷ row (comes (arithmetic_result Sqrt 65025 0)) (comes (is 255))
    ∷ []
