-- A word's text is short enough for its length to fit, and its number is the answer's. Assumes nothing.
use mathlib.Core.Path.{ap, ◌∙◌}
use lib.ListN.{length}
use Rattle.base.specs.Told.{told}
use Rattle.numbers.specs.Answers.{listed_number}
use Rattle.numbers.proofs.FittingLaws.{count-fits}
use Rattle.seamkettle.proofs.TextLaws.{word_fits}
use Rattle.seamkettle.proofs.texts.kettle_print.Goals as goal

pub of_count-requires : goal.of_count-requires
of_count-requires c = count-fits c.print_word.result (word_fits c.args.word (length c.args.out.now) (told c.print_word.result) c.print_word.ensures.result_value)

pub returns : goal.returns
returns c = record { value = c.of_count.ensures.listed ∙ ap listed_number c.print_word.ensures.result_value; out_after = c.print_word.ensures.out_after }
