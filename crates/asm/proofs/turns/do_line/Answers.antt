-- A line that could not be read does nothing. Assumes nothing.
use Rattle.asm.specs.Work.{turn}
use Rattle.asm.proofs.turns.do_line.Goals as goal

pub returns-in-Err-clause-opens_after : goal.returns-in-Err-clause-opens_after
unfolding turn
returns-in-Err-clause-opens_after c = λ ls room e. rw c.in-Err.is
