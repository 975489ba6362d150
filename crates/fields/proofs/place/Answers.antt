-- The masked value is below 2 ^ width, so that placed at `at` it is below 2 ^ 16. Assumes nothing.
use borrow.Author.Rules.{rules}
use Rattle.fields.proofs.Laws.{placed-fits}
use Rattle.fields.proofs.place.Goals as goal

pub overflow_mul-result : goal.overflow_mul-result
overflow_mul-result c = rw (c.power_of_two.ensures, c.power_of_two-2.ensures)
    (record { fits = placed-fits 16 c.args.v c.args.at c.args.width (search rules) })
