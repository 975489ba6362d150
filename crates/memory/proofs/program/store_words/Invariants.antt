-- What is left to do from instruction i on gives the whole's answer and bytes. Assumes nothing.
use Rattle.std.proofs.Common.{◌≡◌, length, drop}
use Rattle.memory.specs.Bytes.{lent}
use Rattle.memory.specs.Program.{store_words}
use Rattle.memory.proofs.program.store_words.Given as goal

abbrev pub invariant-loop-i : goal.invariant-loop-i
invariant-loop-i l =
    (length l.mem ≡ length l.initial.mem) × (length l.dev ≡ length l.initial.dev) × (store_words l.m (lent l.initial.mem l.initial.dev) 0 l.words ≡ store_words l.m (lent l.mem l.dev) l.i (drop l.i l.words))
