-- Lists of any type, where an entry is set or the next one looked at: each by the list's own cases. Assumes nothing.
-- (lib.Seq has the others: drop-set-lt, take-set-le, getD-set-same, getD-set-other, set-out.)
use Prim.Native.Nat.{ℕ, zero, suc, ◌+◌, ◌<◌}
use mathlib.Core.Path.{◌≡◌, refl, sym, ap, ◌∙◌}
use mathlib.Core.List.{List, [], ◌∷◌, ◌++◌}
use native.Mathlib.Numerals.{add-one}
use lib.ListN.{length, get_or, take, drop, set}
use lib.Seq.{drop-cons, take-suc-set}

module _ {A : Type 0} where
  pub take-set : (n : ℕ) (xs : List A) (i : ℕ) (x : A) → take n (set xs i x) ≡ set (take n xs) i x
  take-set zero xs i x = refl
  take-set (suc n) [] i x = refl
  take-set (suc n) (y ∷ ys) zero x = refl
  take-set (suc n) (y ∷ ys) (suc i) x = ap (λ (r : List A). y ∷ r) (take-set n ys i x)

  -- an entry set just after the first n
  pub take_snoc : (xs : List A) (n : ℕ) (x : A) → n < length xs → take (n + 1) (set xs n x) ≡ take n xs ++ (x ∷ [])
  take_snoc xs n x h = ap (λ (k : ℕ). take k (set xs n x)) (add-one n) ∙ take-suc-set xs n x h

  -- what is left from entry i on starts with it
  pub drop-next : (xs : List A) (i : ℕ) (d : A) → i < length xs → drop i xs ≡ get_or xs i d ∷ drop (i + 1) xs
  drop-next xs i d h = drop-cons xs i d h ∙ ap (λ (k : ℕ). get_or xs i d ∷ drop k xs) (sym (add-one i))
