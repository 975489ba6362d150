use Rattle.std.proofs.Common.{◌≡◌, length}
use Rattle.text.specs.Parts.{is_blank, drop_end}
use Rattle.text.proofs.parts.trim_end.Given as goal

abbrev pub invariant-loop-part : goal.invariant-loop-part
invariant-loop-part l = drop_end is_blank l.part ≡ drop_end is_blank l.s

abbrev pub decreases-loop-part : goal.decreases-loop-part
decreases-loop-part l = length l.part
