-- The line ends where `line_end` says. Assumes nothing.
use Rattle.reader.proofs.LineLaws.{line-part}
use Rattle.reader.proofs.lines.line_at.Goals as goal

pub returns : goal.returns
returns c = line-part c.args.s.now c.args.at c.line_end.result c.line_end.ensures.0
