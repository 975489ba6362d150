-- So far the first n words are written.
use Rattle.std.proofs.Common.{◌≡◌, take}
use Rattle.std.proofs.lemmas.List.Edits.{sets}
use Rattle.wordbytes.specs.Words.{bytes_of}
use Rattle.wordbytes.proofs.places.put_words.Given as goal

abbrev pub invariant-loop-n : goal.invariant-loop-n
invariant-loop-n l = l.bytes ≡ sets l.fn.bytes l.fn.i (bytes_of (take l.n l.fn.words))
