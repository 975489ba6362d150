-- What a word says by an edition of the instruction set: the second's is the first's but for 5, a CondJmp in both modes.
use Rattle.std.specs.Prelude.{ℕ, eqb}
use Rattle.base.specs.Choice.{cond}
use Rattle.base.specs.Told.{Told, is}
use Rattle.fields.specs.Fields.{field_of}
use Rattle.instruction.specs.declared.Edition.{Edition}
use Rattle.instruction.specs.declared.Edition.TheVariants.{First, Second}
use Rattle.instruction.specs.declared.Instruction.{Instruction}
use Rattle.instruction.specs.declared.Instruction.TheVariants.{CondJmp}
use Rattle.instruction.specs.Decode.{operand_at, decode}

unfoldable pub decode_in : Edition → ℕ → Told Instruction
decode_in First w = decode w
decode_in Second w = cond (eqb (field_of w 0 4) 5) (is (CondJmp (operand_at w 4 11))) (decode w)
