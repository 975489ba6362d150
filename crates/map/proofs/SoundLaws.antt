-- A sound table with one more right entry that meets none of the others is sound. Assumes nothing.
use mathlib.Core.Path.{◌≡◌, ◌∙◌}
use mathlib.Core.Bool.{Bool, true, false, not, ◌&&◌}
use mathlib.Core.List.{List, [], ◌∷◌, ◌++◌}
use Prim.Native.Nat.{ℕ, suc, ◌+◌, ◌<◌}
use native.Mathlib.Omega.{arith}
use native.Mathlib.Numerals.{add-one}
use borrow.Author.Tests.{not-true}
use lib.ListN.{length, get_or, set, take, drop}
use lib.Seq.{drop-cons, take-suc-set, drop-set-lt}
use Rattle.map.specs.Tables.{any, sound}
use Rattle.base.proofs.Tests.{and_left, and_right, or_left, or_right}

module _ {A : Type 0} where
  any-more : (test : A → Bool) (l : List A) (x : A) → any test l ≡ false → test x ≡ false → any test (l ++ (x ∷ [])) ≡ false
  unfolding any
  any-more test [] x e f = rw f
  any-more test (y ∷ rest) x e f =
      rw (or_left (test y) (any test rest) e) (any-more test rest x (or_right (test y) (any test rest) e) f)

  pub sound_more : (right : A → Bool) (meets : A → A → Bool) → ((x y : A) → meets x y ≡ meets y x) → (l : List A) (x : A) → sound right meets l ≡ true → right x ≡ true → any (meets x) l ≡ false → sound right meets (l ++ (x ∷ [])) ≡ true
  unfolding sound any
  sound_more right meets swap [] x e f g = rw f
  sound_more right meets swap (y ∷ rest) x e f g =
      let h = and_left (right y && not (any (meets y) rest)) (sound right meets rest) e in
      let apart = not-true (any (meets y) rest) (and_right (right y) (not (any (meets y) rest)) h) in
      let met = swap y x ∙ or_left (meets x y) (any (meets x) rest) g in
      rw (and_left (right y) (not (any (meets y) rest)) h, any-more (meets y) rest x apart met)
      (sound_more right meets swap rest x (and_right (right y && not (any (meets y) rest)) (sound right meets rest) e) f (or_right (meets x y) (any (meets x) rest) g))

  -- entry n of a table is filled: the entries in use, and the others
  module _ (l : List A) (n : ℕ) (x : A) (h : n < length l) where
    pub used-more : take (n + 1) (set l n x) ≡ take n l ++ (x ∷ [])
    used-more = rw add-one (take-suc-set l n x h)

    pub spare-fewer : (test : A → Bool) → any test (drop n l) ≡ false → any test (drop (n + 1) (set l n x)) ≡ false
    unfolding any
    spare-fewer test e =
        let k : n < n + 1 = omega arith in
        let f = rw (drop-cons l n x) at e in
        rw (drop-set-lt (n + 1) l n x k, add-one) (or_right (test (get_or l n x)) (any test (drop (suc n) l)) f)
