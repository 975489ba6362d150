-- The instruction that a reference is, once the label's address is known.
use Rattle.std.specs.Prelude.{ℕ, false}
use Rattle.instruction.specs.declared.Operand.TheVariants.{Imm}
use Rattle.instruction.specs.declared.Instruction.{Instruction}
use Rattle.parser.specs.declared.Reference.{Reference}
use Rattle.parser.specs.declared.Reference.TheVariants.{Jmp, CondJmp, Call}

abbrev pub resolved : Reference → ℕ → Instruction
resolved Jmp a = Instruction.Jmp (Imm a)
resolved CondJmp a = Instruction.CondJmp (Imm a)
resolved Call a = Instruction.CallRet false a
