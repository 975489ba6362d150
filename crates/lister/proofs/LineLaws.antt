-- One turn of the loop over the words, and its end: what is left to write is the lines from word i on. Assumes nothing.
use mathlib.Core.Path.{◌≡◌}
use mathlib.Core.List.{List}
use Prim.Native.Nat.{ℕ, ◌+◌, ◌≤◌, ◌<◌}
use native.Mathlib.Numerals.{add-one}
use lib.ListN.{length, drop, get_or, drop_of_length-le}
use lib.Seq.{drop-cons}
use Rattle.lister.specs.Listing.{line, lines_from}
use Rattle.pen.specs.Pen.{Pen, wrote}
use Rattle.pen.proofs.PenLaws.{none, joined}

module _ (p : Pen) (ws : List ℕ) (i : ℕ) where
  pub line-more : {q : Pen} → i < length ws → q ≡ wrote p (line i (get_or ws i 0)) → wrote p (lines_from i (drop i ws)) ≡ wrote q (lines_from (i + 1) (drop (i + 1) ws))
  unfolding lines_from
  line-more h e = rw (drop-cons ws i 0 h, add-one, e, joined)

  pub line-no-more : length ws ≤ i → wrote p (lines_from i (drop i ws)) ≡ p
  unfolding lines_from
  line-no-more h = rw (drop_of_length-le ws h) (none p)
