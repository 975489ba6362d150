-- The buffers have the lengths that they were made with, which are not counted out. Assumes nothing.
use Rattle.std.proofs.Common.{ℕ, sym}
use Rattle.std.proofs.lemmas.List.{length-replicate}
use Rattle.listing.proofs.main.Goals as goal

pub list_input-requires : goal.list_input-requires
list_input-requires c = record { text_len = length-replicate {A = ℕ} 65537 0; out_len = length-replicate {A = ℕ} 1212432 0 }

pub slice_bounds-list_input-end-2 : goal.slice_bounds-list_input-end-2
slice_bounds-list_input-end-2 c = sym (length-replicate {A = ℕ} 1212432 0)
