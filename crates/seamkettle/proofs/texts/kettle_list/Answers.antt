-- The listing is short enough for its length to fit, and its number is the answer's. Assumes nothing.
use mathlib.Core.Path.{ap, ◌∙◌}
use lib.ListN.{length}
use Rattle.base.specs.Told.{told}
use Rattle.numbers.specs.Answers.{listed_number}
use Rattle.numbers.proofs.FittingLaws.{count-fits}
use Rattle.seamkettle.proofs.TextLaws.{list-fits}
use Rattle.seamkettle.proofs.texts.kettle_list.Goals as goal

pub of_count-requires : goal.of_count-requires
of_count-requires c = count-fits c.list.result (list-fits c.args.text.now (length c.args.out.now) (told c.list.result) c.list.ensures.result_value c.list.ensures.text_len_bound)

pub returns : goal.returns
returns c = record { value = c.of_count.ensures.listed ∙ ap listed_number c.list.ensures.result_value; out_after = c.list.ensures.out_after }
