-- One word more, as the first words of an array: it goes after them where there is room. Assumes nothing.
use Prim.Native.Nat.{◌+◌, ◌<◌, ◌≤◌, ℕ}
use borrow.Author.Tests.{le-ltb, lt-ltb}
use lib.ListN.{length, set, take}
use lib.Seq.{length-take-le}
use mathlib.Core.List.{List}
use mathlib.Core.Path.{◌≡◌, ap, sym}
use Rattle.asm.specs.Words.{add_word}
use Rattle.base.specs.Told.{is, no}
use Rattle.labels.proofs.ListLaws.{take_snoc}

module _ (words : List ℕ) (n w : ℕ) (h : n ≤ length words) where
  pub add-word-next : n < length words → n < 32767 → add_word (length words) w (take n words) ≡ is (take (n + 1) (set words n w))
  unfolding add_word
  add-word-next room most =
      let l : length (take n words) ≡ n = length-take-le n words h in
      rw (l, lt-ltb n (length words) room, lt-ltb n 32767 most) (ap is (sym (take_snoc words n w room)))

  pub add-word-full : length words ≤ n → add_word (length words) w (take n words) ≡ no 29
  unfolding add_word
  add-word-full full =
      let l : length (take n words) ≡ n = length-take-le n words h in
      rw (l, le-ltb n (length words) full)

  pub add-word-most : n < length words → 32767 ≤ n → add_word (length words) w (take n words) ≡ no 29
  unfolding add_word
  add-word-most room most =
      let l : length (take n words) ≡ n = length-take-le n words h in
      rw (l, lt-ltb n (length words) room, le-ltb n 32767 most)
