-- One case for each number of stored bytes. Assumes nothing.
use Rattle.journal.specs.Step.{record_of}
use Rattle.journal.proofs.steps.record_of.Goals as goal

pub returns-in-Nothing : goal.returns-in-Nothing
unfolding record_of
returns-in-Nothing c = rw c.in-Nothing.is

pub returns-in-One : goal.returns-in-One
unfolding record_of
returns-in-One c = rw (c.in-One.is, c.replaced.ensures)

pub returns-in-Two : goal.returns-in-Two
unfolding record_of
returns-in-Two c = rw (c.in-Two.is, c.replaced-in-Two.ensures, c.replaced-in-Two-2.ensures)
