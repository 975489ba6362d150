-- The text is short enough for its length to fit above the code, and the number is the answer's. Assumes nothing.
use mathlib.Core.Path.{ap, ◌∙◌}
use Rattle.numbers.specs.Answers.{sourced_number}
use Rattle.seamkettle.proofs.texts.kettle_text.Goals as goal

pub returns : goal.returns
returns c = record { value = c.of_text.ensures ∙ ap sourced_number c.text_of_bytes.ensures.result_value; out_after = c.text_of_bytes.ensures.out_after }
