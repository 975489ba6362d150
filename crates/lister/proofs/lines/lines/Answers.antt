-- What is left to write, the lines from word i on, makes the whole: a turn writes the first of them. Assumes nothing.
use mathlib.Core.Path.{sym, ◌∙◌}
use Rattle.pen.specs.Written.{page}
use Rattle.lister.proofs.LineLaws.{line-more, line-no-more}
use Rattle.lister.proofs.lines.lines.Goals as goal

pub loop-i-preserved : goal.loop-i-preserved
loop-i-preserved c = (
  c.line.ensures.0 ∙ c.loop-i.invariant.0,
  c.loop-i.invariant.1 ∙ line-more (page c.loop-i.p) c.args.words.now c.loop-i.i c.loop-i-test.true c.line.ensures.1,
)

pub returns : goal.returns
returns c = (c.loop-i.invariant.0, sym (c.loop-i.invariant.1 ∙ line-no-more (page c.loop-i.p) c.args.words.now c.loop-i.i c.loop-i-test.false))
