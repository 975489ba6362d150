-- A run of one step answers and leaves what the step does. Assumes nothing.
use mathlib.Core.Path.{ap, ◌∙◌}
use Rattle.memory.specs.Bytes.{lent}
use Rattle.journal.specs.States.{whole}
use Rattle.journal.specs.Step.{result_of}
use Rattle.journal.specs.Run.{Ran}
use Rattle.journal.proofs.RunTurns.{run-one}
use Rattle.journal.proofs.runs.step.Goals as goal

pub returns : goal.returns
returns c = ap (λ (y : Ran). result_of y.answer y.whole) c.run.ensures ∙ run-one (whole c.args.s.now (lent c.args.mem.now c.args.dev.now) c.args.journal.now)
