-- One answer for each case. Assumes nothing.
use mathlib.Core.Path.{◌∙◌}
use Rattle.machine.specs.Acts.{call_ret}
use Rattle.instruction.specs.declared.Register.TheVariants.{PC}
use Rattle.machine.proofs.RegisterLaws.{put-put}
use Rattle.machine.proofs.flow.call_ret.Goals as goal

pub returns-then-ret : goal.returns-then-ret
unfolding call_ret
returns-then-ret c = c.land.ensures ∙ rw (c.get-v.ensures, c.if-ret.true, put-put _ PC _ _)

pub returns-else-ret : goal.returns-else-ret
unfolding call_ret
returns-else-ret c = c.call.ensures ∙ rw c.if-ret.false
