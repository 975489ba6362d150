-- So far the first n entries are written.
use Rattle.std.proofs.Common.{◌≡◌, take}
use Rattle.std.proofs.lemmas.List.Edits.{sets}
use Rattle.wordbytes.specs.Words.{bytes_of}
use Rattle.block.specs.Entries.{entry_words}
use Rattle.block.proofs.entries.put_entries.Given as goal

abbrev pub invariant-loop-n : goal.invariant-loop-n
invariant-loop-n g l = let e = g.E.Entry in l.block ≡ sets l.fn.block l.fn.i (bytes_of (entry_words e.first e.second (take l.n l.fn.entries)))
