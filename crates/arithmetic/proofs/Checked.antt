-- A checked operation of the library, with the refusal in place of no value, comes to what the definition says. Assumes nothing.
use mathlib.Core.Path.{◌≡◌}
use Prim.Native.Nat.{ℕ, ◌-◌, ◌<◌, ◌≤◌}
use native.Mathlib.Omega.{arith}
use lib.Dec.{eqb, leb}
use borrow.Author.Tests.{le-leb, lt-leb, eq-eqb, ne_eqb}
use Rattle.std.specs.Prelude.{Option, Some, None, SomeIff, Result}
use Rattle.std.specs.Option.{ok_or, unwrap_or}
use Rattle.base.specs.Choice.{cond}
use Rattle.base.specs.Told.{is, no, told}
use Rattle.base.specs.declared.refusals.Refusal.{Refusal}
use Rattle.base.specs.declared.refusals.Refusal.TheVariants.{ArithOverflow, DivideByZero}
use Rattle.arithmetic.specs.Totals.{fitted}

-- a number for which 32 bits have no room fits no better than the last one of them
pub past_all : (o : Option ℕ) (n : ℕ) → SomeIff o (n < 4294967296) n → fitted (unwrap_or o 4294967295) ≡ fitted n
unfolding fitted
past_all None n h = rw (lt-leb n 65535 (omega (arith, h)))
past_all (Some v) n h = rw h.1

module _ (o : Option ℕ) (x : Result ℕ Refusal) where
  -- a difference
  pub checked_difference : (a b : ℕ) → x ≡ ok_or o ArithOverflow → SomeIff o (b ≤ a) (a - b) → told x ≡ cond (leb b a) (is (a - b)) (no 7)
  checked_difference a b e = rw e (go o)
    where
      go : (p : Option ℕ) → SomeIff p (b ≤ a) (a - b) → told (ok_or p ArithOverflow) ≡ cond (leb b a) (is (a - b)) (no 7)
      go None h = rw (lt-leb b a (omega (arith, h)))
      go (Some v) h = rw (h.1, le-leb b a h.0)

  -- what is divided by b
  pub checked_divided : (b n : ℕ) → x ≡ ok_or o DivideByZero → SomeIff o (0 < b) n → told x ≡ cond (eqb b 0) (no 8) (is n)
  checked_divided b n e = rw e (go o)
    where
      go : (p : Option ℕ) → SomeIff p (0 < b) n → told (ok_or p DivideByZero) ≡ cond (eqb b 0) (no 8) (is n)
      go None h = let z : b ≡ 0 = omega (arith, h) in rw (eq-eqb b 0 z)
      go (Some v) h = rw (h.1, ne_eqb b 0 (λ z. omega (arith, h.0, z)))
