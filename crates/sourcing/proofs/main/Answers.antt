-- The buffers have the lengths that they were made with, which are not counted out. Assumes nothing.
use Rattle.std.proofs.Common.{ℕ, sym}
use Rattle.std.proofs.lemmas.List.{length-replicate}
use Rattle.sourcing.proofs.main.Goals as goal

pub source_input-requires : goal.source_input-requires
source_input-requires c = record { words_len = length-replicate {A = ℕ} 65536 0; out_len = length-replicate {A = ℕ} 851942 0 }

pub slice_bounds-source_input-end-2 : goal.slice_bounds-source_input-end-2
slice_bounds-source_input-end-2 c = sym (length-replicate {A = ℕ} 851942 0)
