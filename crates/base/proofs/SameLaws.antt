-- Two texts are the same exactly where they are equal: by induction, byte after byte. Assumes nothing.
use Prim.Native.Nat.{ℕ, suc}
use mathlib.Core.Path.{◌≡◌, refl, ap}
use mathlib.Core.Bool.{Bool, true, false, ◌&&◌}
use mathlib.Core.List.{List, [], ◌∷◌}
use lib.ListN.{length}
use lib.Dec.{eqb}
use borrow.Author.Tests.{eq-eqb, eqb-true}
use Rattle.base.specs.Bytes.{same}

pub same_self : (a : List ℕ) → same a a ≡ true
same_self [] = refl
same_self (x ∷ xs) = rw (eq-eqb x x refl, same_self xs)

pub same-equal : (a b : List ℕ) → same a b ≡ true → a ≡ b
same-equal [] [] e = refl
same-equal [] (y ∷ ys) e = let z : false ≡ true = e in cc
same-equal (x ∷ xs) [] e = let z : false ≡ true = e in cc
same-equal (x ∷ xs) (y ∷ ys) e = go (eqb x y) refl (same-equal xs ys) e
  where
    go : (t : Bool) → eqb x y ≡ t → (same xs ys ≡ true → xs ≡ ys) → (t && same xs ys) ≡ true → (x ∷ xs) ≡ (y ∷ ys)
    go true q k r =
        let h = eqb-true x y q in
        let l = k r in
        cc
    go false q k r = cc

-- two lengths, two texts
pub same-lengths : (a b : List ℕ) → (length a ≡ length b → ⊥) → same a b ≡ false
same-lengths [] [] h = absurd (h refl)
same-lengths [] (y ∷ ys) h = refl
same-lengths (x ∷ xs) [] h = refl
same-lengths (x ∷ xs) (y ∷ ys) h = go (eqb x y) (same-lengths xs ys (λ e. h (ap suc e)))
  where
    go : (t : Bool) → same xs ys ≡ false → (t && same xs ys) ≡ false
    go true r = r
    go false r = refl
