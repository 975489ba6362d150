-- What is left to mark makes the whole: a turn marks for the first of the words that are left. Assumes nothing.
use mathlib.Core.Path.{◌≡◌}
use mathlib.Core.List.{map}
use lib.ListN.{drop}
use Rattle.source.specs.Words.{instruction_of}
use Rattle.source.specs.Marks.{marked}
use Rattle.source.proofs.marks.mark_all.Given as goal

abbrev pub invariant-loop-w : goal.invariant-loop-w
invariant-loop-w l = marked (map instruction_of l.words) l.initial.used ≡ marked (map instruction_of (drop l.w-index l.words)) l.used
