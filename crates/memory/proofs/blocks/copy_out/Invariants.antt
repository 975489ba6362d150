-- The bytes copied and those still to be read are the bytes asked for, and the buffer's rest is as it was. Assumes nothing.
use Rattle.std.proofs.Common.{◌≡◌, length}
use Rattle.memory.specs.Bytes.{lent}
use Rattle.memory.proofs.Copies.{Copied}
use Rattle.memory.proofs.blocks.copy_out.Given as goal

abbrev pub invariant-loop-i : goal.invariant-loop-i
invariant-loop-i l =
    (length l.out ≡ length l.initial.out) × Copied l.m (lent l.mem l.dev) l.start l.size l.initial.out l.out l.i
