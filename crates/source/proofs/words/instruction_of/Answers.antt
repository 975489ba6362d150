-- What the word decodes to, or Noop, is the definition's. Assumes nothing.
use mathlib.Core.Path.{◌∙◌}
use Rattle.source.proofs.AskLaws.{says}
use Rattle.source.proofs.words.instruction_of.Goals as goal

pub returns : goal.returns
returns c = c.unwrap_or.ensures ∙ says c.args.w _ c.decode_in.ensures
