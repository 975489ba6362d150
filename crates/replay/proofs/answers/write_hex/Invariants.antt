-- `replay::answers::write_hex` spells out pieces of at most 256 bytes.
-- Assumes nothing.
use Rattle.std.proofs.Common.{◌≤◌}
use Rattle.std.specs.Slice.Iter.{chunks_size}
use Rattle.replay.proofs.answers.write_hex.Given as goal

abbrev pub invariant-loop-piece : goal.invariant-loop-piece
invariant-loop-piece g l =
    (goal.iterator-loop-piece g).can_next l.piece-iterator ×
    (goal.iterator-loop-piece g).is_finite l.piece-iterator × (chunks_size l.piece-iterator ≤ 256)
