use Rattle.std.proofs.Common.{◌≡◌, length}
use Rattle.text.specs.Parts.{equals, drop_end}
use Rattle.text.proofs.parts.drop_final.Given as goal

abbrev pub invariant-loop-part : goal.invariant-loop-part
invariant-loop-part l = drop_end (equals l.b) l.part ≡ drop_end (equals l.b) l.s

abbrev pub decreases-loop-part : goal.decreases-loop-part
decreases-loop-part l = length l.part
