-- Past the last arm stands 4. Assumes nothing.
use Rattle.base.specs.Told.{no}
use Rattle.base.proofs.Matches.{default}
use Rattle.instruction.specs.Decode.{arms, arm, decode}
use Rattle.instruction.proofs.decoder.decode.Goals as goal

pub returns-in_default : goal.returns-in_default
unfolding decode arm arms
returns-in_default c = rw (← c.field.ensures) (default (arms c.args.w) (no 4) c.field.result c.in_default.in_default-own.rest)
