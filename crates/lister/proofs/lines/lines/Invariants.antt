-- What is left to write, the lines from word i on, makes the whole: a turn writes the first of them. Assumes nothing.
use mathlib.Core.Path.{◌≡◌}
use lib.ListN.{drop}
use Rattle.lister.specs.Listing.{lines_from}
use Rattle.pen.specs.Pen.{wrote}
use Rattle.pen.specs.Written.{page}
use Rattle.lister.proofs.lines.lines.Given as goal

abbrev pub invariant-loop-i : goal.invariant-loop-i
invariant-loop-i l = (l.p.out.ghost_name ≡ l.initial.p.out.ghost_name) × (wrote (page l.initial.p) (lines_from 0 l.words) ≡ wrote (page l.p) (lines_from l.i (drop l.i l.words)))
