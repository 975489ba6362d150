-- A shift by 16 or more leaves no bit: to the left the product is whole 65,536s, to the right the divisor is above the number. Assumes nothing.
use mathlib.Core.Path.{◌≡◌, sym, ap, ◌∙◌}
use mathlib.Core.Bool.{Bool, true, false}
use Prim.Native.Nat.{ℕ, ◌+◌, ◌-◌, ◌*◌, ◌/◌, ◌%◌, ◌^◌, ◌<◌, ◌≤◌}
use native.Mathlib.Nat.{mul_assoc, mul-mod_left, div-eq_of_lt, lt_of_lt_of_le}
use native.Mathlib.Omega.{arith}
use lib.Pow.{pow-add, pow_mono}
use Rattle.std.specs.Prelude.{Option, Some, None, SomeIff, unwrap_or}
use Rattle.arithmetic.specs.Shifts.{shifted}

whole : (v k : ℕ) → 16 ≤ k → v * 2 ^ k ≡ v * 2 ^ (k - 16) * 65536
whole v k h =
    let e : k ≡ k - 16 + 16 = omega arith in
    ap (λ (n : ℕ). v * 2 ^ n) e ∙ ap (λ (n : ℕ). v * n) (pow-add 2 (k - 16) 16) ∙ sym (mul_assoc v (2 ^ (k - 16)) 65536)

pub lost : (v k : ℕ) (left : Bool) → v < 65536 → 16 ≤ k → 0 ≡ shifted v k left
unfolding shifted
lost v k true h g = sym (ap (λ (n : ℕ). n % 65536) (whole v k g) ∙ mul-mod_left (v * 2 ^ (k - 16)) 65536)
lost v k false h g = sym (div-eq_of_lt (lt_of_lt_of_le h (pow_mono g)))

module _ (v k : ℕ) (h : v < 65536) (o : Option ℕ) (r : ℕ) (e : r ≡ unwrap_or o 0) where
  -- the library's shifts, with 0 for a shift of 16 or more
  pub shifted_left : SomeIff o (k < 16) (v * 2 ^ k % 65536) → r ≡ shifted v k true
  unfolding shifted
  shifted_left = go o e
    where
      go : (p : Option ℕ) → r ≡ unwrap_or p 0 → SomeIff p (k < 16) (v * 2 ^ k % 65536) → r ≡ shifted v k true
      go None q s = let g : 16 ≤ k = omega (arith, s) in q ∙ lost v k true h g
      go (Some x) q s = q ∙ s.1

  pub shifted_right : SomeIff o (k < 16) (v / 2 ^ k) → r ≡ shifted v k false
  unfolding shifted
  shifted_right = go o e
    where
      go : (p : Option ℕ) → r ≡ unwrap_or p 0 → SomeIff p (k < 16) (v / 2 ^ k) → r ≡ shifted v k false
      go None q s = let g : 16 ≤ k = omega (arith, s) in q ∙ lost v k false h g
      go (Some x) q s = q ∙ s.1
