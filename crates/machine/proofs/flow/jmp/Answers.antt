-- PC is the operand. Assumes nothing.
use mathlib.Core.Path.{◌∙◌}
use Rattle.machine.specs.Acts.{jmp}
use Rattle.instruction.specs.declared.Register.TheVariants.{PC}
use Rattle.machine.proofs.RegisterLaws.{put-put}
use Rattle.machine.proofs.flow.jmp.Goals as goal

pub returns : goal.returns
unfolding jmp
returns c = c.land.ensures ∙ rw (c.operand-v.ensures, put-put _ PC _ _)
