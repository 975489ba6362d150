-- So far the first n words are read.
use Rattle.std.proofs.Common.{◌≡◌, take}
use Rattle.wordbytes.specs.Words.{words_from}
use Rattle.wordbytes.proofs.buffers.read_words.Given as goal

abbrev pub invariant-loop-n : goal.invariant-loop-n
invariant-loop-n l = take l.n l.words ≡ words_from l.n l.fn.bytes
