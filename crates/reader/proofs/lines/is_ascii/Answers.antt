-- Bytes up to 127 are ASCII. Assumes nothing.
use mathlib.Core.Path.{◌∙◌}
use Rattle.reader.proofs.LineLaws.{all_ascii}
use Rattle.reader.proofs.lines.is_ascii.Goals as goal

pub returns : goal.returns
returns c = c.all_low.ensures ∙ all_ascii c.args.s.now
