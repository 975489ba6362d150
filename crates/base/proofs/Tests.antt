-- Truth values: what a conjunction and a disjunction say, and when a test in the code is a definition's. Assumes nothing.
use mathlib.Core.Path.{◌≡◌, refl, sym}
use mathlib.Core.Bool.{Bool, true, false, not, ◌&&◌, ◌||◌}
use Prim.Native.Nat.{ℕ, ◌<◌, ◌≤◌}
use native.Mathlib.Omega.{arith}
use lib.Dec.{ltb, leb}
use borrow.Author.Tests.{ltb-true, lt-ltb, leb-true, le-leb}

-- a test does not both hold and fail
pub clash : {A : Type 0} → false ≡ true → A
clash e = absurd (let z : ◌≡◌ {A = ℕ} 0 1 = cc in omega arith)

-- what a conjunction and a disjunction say
pub and_left : (t u : Bool) → (t && u) ≡ true → t ≡ true
and_left true u e = refl
and_left false u e = e

pub and_right : (t u : Bool) → (t && u) ≡ true → u ≡ true
and_right true u e = e
and_right false true e = refl
and_right false false e = e

-- both of two tests that hold together
pub both : (t u : Bool) → (t && u) ≡ true → (t ≡ true) × (u ≡ true)
both t u e = (and_left t u e, and_right t u e)

-- the parts of three
module _ (t u w : Bool) (e : (t && u && w) ≡ true) where
  pub first : t ≡ true
  first = and_left t u (and_left (t && u) w e)

  pub second : u ≡ true
  second = and_right t u (and_left (t && u) w e)

  pub third : w ≡ true
  third = and_right (t && u) w e

pub or_left : (t u : Bool) → (t || u) ≡ false → t ≡ false
or_left true u e = e
or_left false u e = refl

pub or_right : (t u : Bool) → (t || u) ≡ false → u ≡ false
or_right true true e = e
or_right true false e = refl
or_right false u e = e

-- two truth values of which each holds if the other does
pub same : (t u : Bool) → (t ≡ true → u ≡ true) → (u ≡ true → t ≡ true) → t ≡ u
same true u f g = sym (f refl)
same false true f g = g refl
same false false f g = refl

-- neither of two holds where each fails
pub not-or : (t u : Bool) → not (t || u) ≡ (not t && not u)
not-or true u = refl
not-or false u = refl

-- the middle ones of four change places
pub or-pairs : (t u v w : Bool) → (t || u || (v || w)) ≡ (t || v || (u || w))
or-pairs true u v w = refl
or-pairs false true true w = refl
or-pairs false true false w = refl
or-pairs false false v w = refl

pub ltb-same : (a b x y : ℕ) → (a < b → x < y) → (x < y → a < b) → ltb a b ≡ ltb x y
ltb-same a b x y f g =
    same (ltb a b) (ltb x y) (λ h. lt-ltb x y (f (ltb-true a b h))) (λ h. lt-ltb a b (g (ltb-true x y h)))

pub leb-same : (a b x y : ℕ) → (a ≤ b → x ≤ y) → (x ≤ y → a ≤ b) → leb a b ≡ leb x y
leb-same a b x y f g =
    same (leb a b) (leb x y) (λ h. le-leb x y (f (leb-true a b h))) (λ h. le-leb a b (g (leb-true x y h)))
