-- Entries of zeros from an entry on: what stands before it, filled up. Assumes nothing.
use Prim.Native.Nat.{◌-◌, ◌≤◌, ℕ}
use lib.ListN.{drop, drop_of_length-le, length, length-drop, length-take, replicate, take}
use lib.Seq.{length-take-le, take_all}
use borrow.Rule.Slice.PartMut.{mid_of, put_mid, post_of}
use mathlib.Core.List.{List, [], ◌++◌, append-nil}
use mathlib.Core.Path.{◌≡◌, ap, sym}
use native.Mathlib.Omega.{arith}
use Rattle.labels.specs.declared.Label.{Label}
use Rattle.labels.specs.Labels.{no_label}
use Rattle.table.specs.Table.{filled}

module _ (xs : List Label) (i : ℕ) where
  pub clear-rest : i ≤ length xs → (zeros : List Label) → zeros ≡ replicate (length (mid_of i (length xs - i) xs)) no_label → put_mid i (length xs - i) xs zeros ≡ filled (length xs) (take i xs)
  unfolding filled
  clear-rest h zeros e =
      let l : length (take i xs) ≡ i = length-take-le i xs h in
      let rest : post_of i (length xs - i) xs ≡ [] = drop_of_length-le (drop i xs) (omega (arith, length-drop i xs)) in
      let size : length (mid_of i (length xs - i) xs) ≡ length xs - i = omega (arith, length-take (length xs - i) (drop i xs), length-drop i xs) in
      rw (l, e, size, rest) (ap (λ (zs : List Label). take i xs ++ zs) (append-nil (replicate (length xs - i) no_label)))

  pub clear-end : length xs ≤ i → xs ≡ filled (length xs) (take i xs)
  unfolding filled
  clear-end h =
      let z : length xs - length xs ≡ 0 = omega arith in
      sym (rw (take_all i xs h, z) (append-nil xs))
