-- A turn writes the next byte. Assumes nothing.
use mathlib.Core.Path.{◌∙◌}
use Rattle.std.proofs.lemmas.List.{take_more}
use Rattle.pen.proofs.PenLaws.{joined}
use Rattle.pen.proofs.writing.Pen.put_all.Goals as goal

pub loop-b-preserved : goal.loop-b-preserved
loop-b-preserved c = (
  c.put.ensures.0 ∙ c.loop-b.invariant.0,
  rw (c.put.ensures.1, c.loop-b.invariant.1, joined, take_more c.args.bytes.now c.loop-b.b-index 0 c.loop-b-test.true),
)
