-- Slots of a ring: one on, one back, and how far apart two are. Assumes nothing.
use Prim.Native.Nat.{ℕ, zero, suc, ◌+◌, ◌-◌, ◌<◌, ◌≤◌}
use mathlib.Core.Path.{◌≡◌, refl, ap, ◌∙◌}
use mathlib.Core.Logic.{◌⊎◌, inl, inr}
use mathlib.Core.Bool.{Bool, true, false}
use lib.Dec.{eqb}
use borrow.Author.Tests.{eqb-true, eqb-false}
use native.Mathlib.Nat.{mod-lt, mod-eq_of_lt, mod_self, add-mod_right}
use native.Mathlib.Omega.{arith}
use Rattle.records.specs.Slots.{slot_after, slot_before}

pub after-lt : (d k : ℕ) → 0 < d → slot_after d k < d
unfolding slot_after
after-lt d k h = mod-lt (k + 1) h

pub before-lt : (d k : ℕ) → 0 < d → slot_before d k < d
unfolding slot_before
before-lt d k h = mod-lt (k + (d - 1)) h

pub after-step : (d k : ℕ) → k + 1 < d → slot_after d k ≡ k + 1
unfolding slot_after
after-step d k h = mod-eq_of_lt h

pub after-wrap : (d k : ℕ) → k + 1 ≡ d → slot_after d k ≡ 0
unfolding slot_after
after-wrap d k e = rw e (mod_self d)

pub after_last : (d k : ℕ) → k < d → d ≤ k + 1 → slot_after d k ≡ 0
after_last d k l m = after-wrap d k (omega arith)

-- the slot after, as the code finds it: either one more is within the ring, or it is the ring's size
pub ruleset found_after = (after-step, after_last)

pub before-wrap : (d : ℕ) → 0 < d → slot_before d 0 ≡ d - 1
unfolding slot_before
before-wrap d h = let e : 0 + (d - 1) ≡ d - 1 = omega arith in rw e (mod-eq_of_lt (omega arith))

pub before-step : (d k : ℕ) → 0 < k → k < d → slot_before d k ≡ k - 1
unfolding slot_before
before-step d k h l =
    let e : k + (d - 1) ≡ (k - 1) + d = omega arith in
    let f : k - 1 < d = omega arith in
    rw (e, add-mod_right) (mod-eq_of_lt f)

pub before-first : (d k : ℕ) → k ≡ 0 → k < d → slot_before d k ≡ d - 1
before-first d k z l = let p : 0 < d = omega arith in rw z (before-wrap d p)

-- the slot before, as the code finds it: either the slot is not the first, or the ring's last one is before it
pub ruleset found_before = (before-step, before-first)

-- one on and one back is where it was
pub before-after : (d k : ℕ) → k < d → slot_before d (slot_after d k) ≡ k
before-after d k h = go (eqb (k + 1) d) refl
  where
    go : (t : Bool) → eqb (k + 1) d ≡ t → slot_before d (slot_after d k) ≡ k
    go true e =
        let f : k + 1 ≡ d = eqb-true (k + 1) d e in
        let p : 0 < d = omega arith in
        ap (slot_before d) (after-wrap d k f) ∙ before-wrap d p ∙ omega arith
    go false e =
        let p : k + 1 < d = omega (arith, eqb-false (k + 1) d e) in
        ap (slot_before d) (after-step d k p) ∙ before-step d (k + 1) (omega arith) p ∙ omega arith

-- p lies i slots before x
abbrev pub Behind : ℕ → ℕ → ℕ → ℕ → Type 0
Behind d x i p = (p + i ≡ x) ⊎ (p + i ≡ x + d)

pub behind-before : (d x i p : ℕ) → x < d → p < d → suc i < d → Behind d x i p → Behind d x (suc i) (slot_before d p)
behind-before d x i zero hx hp hi (inl e) = rw (before-wrap d hp) (inr (omega arith))
behind-before d x i zero hx hp hi (inr e) = absurd (omega arith)
behind-before d x i (suc p) hx hp hi (inl e) = let z : 0 < suc p = omega arith in rw (before-step d (suc p) z hp) (inl (omega arith))
behind-before d x i (suc p) hx hp hi (inr e) = let z : 0 < suc p = omega arith in rw (before-step d (suc p) z hp) (inr (omega arith))

pub behind-other : (d x i p : ℕ) → suc i < d → Behind d x (suc i) p → p ≡ x → ⊥
behind-other d x i p h (inl e) q = omega arith
behind-other d x i p h (inr e) q = omega arith
