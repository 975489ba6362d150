-- What `array::from_fn` makes, where a call leaves the closure as it was: the value of each number in turn. Assumes nothing.
use Rattle.std.proofs.Common.{◌≡◌, ℕ, zero, suc, ◌+◌, ◌<◌, ◌≤◌, Bool, true, false, List, get_or, map, refl, ◌∙◌, subst, eqb, arith}
use borrow.Author.Tests.{eqb-true, eqb-false}
use Rattle.std.specs.Fn.{Called}
use Rattle.std.specs.List.{range_with_len}
use Rattle.std.specs.Array.{IsFromFnResult, IsFromFnResultFrom}
use Rattle.std.proofs.lemmas.List.FromFn.{fill_by_all}
use denote.Param.Members.{Mut}

module _ {F B : Type 0} (g : Mut F (ℕ × Unit {0}) B) (h : ℕ → B) (f : F) (step : (i : ℕ) (y : B) (q : F) → Called g f (i, tt) y q → (y ≡ h i) × (q ≡ f)) where
  each : (ys : List B) (n i : ℕ) (d : B) → IsFromFnResultFrom g f ys i n → (k : ℕ) → i ≤ k → k < i + n → get_or ys k d ≡ h k
  each ys zero i d m k a b = absurd (omega arith)
  each ys (suc n) i d (q, y, at, called, rest) k a b =
      let s : (y ≡ h i) × (q ≡ f) = step i y q called in
      turn ys i d y (at.1 d ∙ s.0) k a (λ l. each ys n (i + 1) d (subst (λ p. IsFromFnResultFrom g p ys (i + 1) n) s.1 rest) k l (omega arith))
    where
      turn : (ys : List B) (i : ℕ) (d y : B) → get_or ys i d ≡ h i → (k : ℕ) → i ≤ k → (i + 1 ≤ k → get_or ys k d ≡ h k) → get_or ys k d ≡ h k
      turn ys i d y here k a later = go (eqb i k) refl
        where
          go : (t : Bool) → eqb i k ≡ t → get_or ys k d ≡ h k
          go true e = let z : i ≡ k = eqb-true i k e in subst (λ j. get_or ys j d ≡ h j) z here
          go false e = later (omega (arith, eqb-false i k e))

  pub made : (ys : List B) (n : ℕ) (d : B) → IsFromFnResult g f ys n → ys ≡ map h (range_with_len 0 n)
  made ys n d m = fill_by_all h ys n d m.long (λ k b. each ys n 0 d m.each k (omega arith) (omega arith))
