-- Pieces that are added one after the other are their sum added, and what there is room for is added whole. Assumes nothing.
use mathlib.Core.Path.{◌≡◌, refl, sym, ap, ◌∙◌}
use mathlib.Core.List.{List, [], ◌∷◌, ◌++◌, append_assoc}
use Prim.Native.Nat.{ℕ, zero, suc, ◌+◌, ◌≤◌, min}
use native.Mathlib.Omega.{arith}
use lib.ListN.{length, take}
use Rattle.std.proofs.Math.Seq.{take-append-add}
use Rattle.std.proofs.lemmas.List.{take_all, take_min}
use Rattle.printer.specs.Line.{added}

-- what was left out is left out of the whole
cut : (n : ℕ) (x y : List ℕ) → take n (take n x ++ y) ≡ take n (x ++ y)
cut zero x y = refl
cut (suc n) [] y = refl
cut (suc n) (b ∷ x) y = ap (λ (l : List ℕ). b ∷ l) (cut n x y)

pub joined : (line x y : List ℕ) → added (added line x) y ≡ added line (x ++ y)
unfolding added
joined line x y = cut 32 (line ++ x) y ∙ ap (take 32) (append_assoc line x y)

pub whole : (x : List ℕ) → length x ≤ 32 → added [] x ≡ x
unfolding added
whole x h = take_all 32 x h

module _ (line x : List ℕ) (room n : ℕ) (e : room + length line ≡ 32) (m : n ≡ min room (length x)) where
  -- as many bytes as there is room for
  pub all : line ++ take n x ≡ added line x
  unfolding added
  all =
      let f : length line + room ≡ 32 = omega arith in
      ap (λ (k : ℕ). line ++ take k x) m
      ∙ ap (λ (l : List ℕ). line ++ l) (take_min room x)
      ∙ sym (take-append-add line x room)
      ∙ ap (λ (k : ℕ). take k (line ++ x)) f
