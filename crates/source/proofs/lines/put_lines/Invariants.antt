-- What is left to write, the lines from word k on, makes the whole: a turn writes the first of them, after its label line. Assumes nothing.
use mathlib.Core.Path.{◌≡◌}
use mathlib.Core.List.{map}
use lib.ListN.{length, drop}
use Rattle.pen.specs.Pen.{wrote}
use Rattle.pen.specs.Written.{page}
use Rattle.text.specs.Lines.{ended}
use Rattle.source.specs.Words.{instruction_of}
use Rattle.source.specs.Source.{lines_of}
use Rattle.source.specs.Marks.{used_in}
use Rattle.source.proofs.lines.put_lines.Given as goal

abbrev pub invariant-loop-k : goal.invariant-loop-k
invariant-loop-k l =
    (l.p.out.ghost_name ≡ l.initial.p.out.ghost_name)
    × (wrote (page l.initial.p) (ended (lines_of (used_in l.used) (length l.words) 0 (map instruction_of l.words)))
    ≡ wrote (page l.p) (ended (lines_of (used_in l.used) (length l.words) l.k (map instruction_of (drop l.k l.words)))))
