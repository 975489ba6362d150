-- What is left to write, the lines from word k on, makes the whole: a turn writes the first of them, after its label line. Assumes nothing.
use mathlib.Core.Path.{sym, ◌∙◌}
use lib.ListN.{length}
use Rattle.pen.specs.Written.{page}
use Rattle.source.specs.Marks.{used_in}
use Rattle.source.proofs.LineLaws.{lines_more, lines-no-more}
use Rattle.source.proofs.lines.put_lines.Goals as goal

pub loop-k-preserved : goal.loop-k-preserved
loop-k-preserved c = (
  c.put_line.ensures.0 ∙ c.put_label.ensures.0 ∙ c.loop-k.invariant.0,
  c.loop-k.invariant.1
      ∙ lines_more (used_in c.args.used.now) (length c.args.words.now) (page c.loop-k.p) c.args.words.now c.loop-k.k c.loop-k-test.true c.put_label.ensures.1 (c.put_line.ensures.1 ∙ rw c.instruction_of.ensures),
)

pub returns : goal.returns
returns c = (c.loop-k.invariant.0, sym (c.loop-k.invariant.1 ∙ lines-no-more (used_in c.args.used.now) (length c.args.words.now) (page c.loop-k.p) c.args.words.now c.loop-k.k c.loop-k-test.false))
