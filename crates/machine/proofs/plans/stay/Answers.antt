-- PC gets what it has before it is raised. Assumes nothing.
use mathlib.Core.Path.{◌∙◌}
use Rattle.instruction.specs.declared.Register.TheVariants.{PC}
use Rattle.machine.proofs.RegisterLaws.{put-get}
use Rattle.machine.proofs.plans.stay.Goals as goal

pub returns : goal.returns
returns c = c.pause_or_next.ensures ∙ rw (c.get.ensures, put-get _ PC)
