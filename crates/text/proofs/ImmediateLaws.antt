-- Numbers in text, digit by digit.
use Prim.Native.Nat.{◌*◌, ◌+◌, ◌<◌, ◌≤◌, ℕ}
use borrow.Author.Tests.{le-leb, le-ltb, lt-leb, lt-ltb}
use lib.Dec.{ltb}
use lib.ListN.{drop, drop_of_length-le, get_or, length}
use lib.Seq.{drop-cons}
use mathlib.Core.Bool.{Bool, false, true}
use mathlib.Core.List.{List, [], ◌∷◌}
use mathlib.Core.Path.{◌≡◌, refl, ◌∙◌}
use native.Mathlib.Nat.{le-mul_of_pos_right}
use native.Mathlib.Numerals.{add-one}
use native.Mathlib.Omega.{arith}
use Rattle.base.specs.Choice.{cond}
use Rattle.base.specs.Told.{is, no}
use Rattle.std.specs.Prelude.{Option, Some, None, SomeIff}
use Rattle.std.specs.Char.{digit_value}
use Rattle.std.proofs.lemmas.Bool.Decides.{nat_tests}
use Rattle.text.specs.Immediates.{all_digits, at_most, digit_in, digit_of, digits_from, value_from}

-- up to 16 the two values of a digit are one
module _ (b base : ℕ) (h : base ≤ 16) where
  digit_same : digit_value b < base → digit_of b ≡ digit_value b
  unfolding digit_of
  digit_same l = grind (arith, nat_tests)

  too_large : base ≤ digit_value b → base ≤ digit_of b
  unfolding digit_of
  too_large l = grind (arith, nat_tests)

-- a digit below a base of at most 16 is the library's
pub digit_is : (o : Option ℕ) (b base : ℕ) → base ≤ 16 → SomeIff o (digit_value b < base) (digit_value b) → o ≡ digit_in base b
digit_is None b base h e = rw (le-ltb (digit_of b) base (too_large b base h (omega (arith, e))))
digit_is (Some d) b base h e =
    let v : digit_of b ≡ digit_value b = digit_same b base h e.0 in
    rw (e.1, v, lt-ltb (digit_value b) base e.0)

module _ (base : ℕ) (s : List ℕ) (acc i : ℕ) where
  pub num_next : (d : ℕ) → i < length s → digit_in base (get_or s i 0) ≡ Some d → digits_from base acc (drop i s) ≡ digits_from base (acc * base + d) (drop (i + 1) s)
  num_next d h e = go (ltb (digit_of (get_or s i 0)) base) refl e
    where
      go : (t : Bool) → ltb (digit_of (get_or s i 0)) base ≡ t → cond t (Some (digit_of (get_or s i 0))) None ≡ Some d → digits_from base acc (drop i s) ≡ digits_from base (acc * base + d) (drop (i + 1) s)
      go true q e = let v : digit_of (get_or s i 0) ≡ d = cc in rw (← v, add-one, drop-cons s i 0, q)
      go false q e = cc

  pub num_bad : i < length s → digit_in base (get_or s i 0) ≡ None → digits_from base acc (drop i s) ≡ no 24
  num_bad h e = go (ltb (digit_of (get_or s i 0)) base) refl e
    where
      go : (t : Bool) → ltb (digit_of (get_or s i 0)) base ≡ t → cond t (Some (digit_of (get_or s i 0))) None ≡ None → digits_from base acc (drop i s) ≡ no 24
      go true q e = cc
      go false q e = rw (drop-cons s i 0, q)

  pub num_end : length s ≤ i → acc ≤ 65535 → digits_from base acc (drop i s) ≡ is acc
  num_end h l = rw (drop_of_length-le, le-leb _ _ l)

grows : (base : ℕ) → 1 ≤ base → (acc : ℕ) (xs : List ℕ) → acc ≤ value_from base acc xs
grows base h acc [] = omega arith
grows base h acc (x ∷ xs) =
    let a : acc ≤ acc * base = le-mul_of_pos_right acc h in
    omega (arith, grows base h (acc * base + digit_of x) xs)

num-over : (base : ℕ) → 1 ≤ base → (acc : ℕ) → 65535 < acc → (xs : List ℕ) → digits_from base acc xs ≡ no 24
num-over base h acc o xs = cases (all_digits base xs)
  where
    cases : (t : Bool) → cond t (at_most (value_from base acc xs)) (no 24) ≡ no 24
    cases true =
        let l : 65535 < value_from base acc xs = omega (arith, grows base h acc xs) in
        rw (lt-leb _ _ l)
    cases false = refl

-- one digit more makes the number too large
pub num_past : (base : ℕ) (s : List ℕ) (acc i d : ℕ) → 1 ≤ base → i < length s → digit_in base (get_or s i 0) ≡ Some d → 65535 < acc * base + d → digits_from base acc (drop i s) ≡ no 24
num_past base s acc i d b h e o = num_next base s acc i d h e ∙ num-over base b (acc * base + d) o (drop (i + 1) s)

pub ruleset digit_laws = (num_next, num_bad, num_end, num_past)
