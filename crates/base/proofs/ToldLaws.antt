-- A value is no refusal, and two that are told alike are one: constructors differ, and keep what they hold; and which numbers a
-- refusal has. Assumes nothing.
use mathlib.Core.Path.{◌≡◌, sym, ap}
use mathlib.Core.Bool.{Bool, true, false}
use Prim.Native.Nat.{ℕ, ◌≤◌}
use native.Mathlib.Omega.{arith}
use Rattle.base.specs.Choice.{cond}
use Rattle.std.specs.Prelude.{Result, Ok, Err}
use Rattle.base.specs.Numbers.{number_of}
use Rattle.base.specs.Told.{Told, is, no, told, ◌>>=◌}
use Rattle.base.specs.declared.refusals.Refusal.{Refusal}
use Rattle.base.proofs.Laws.{number-one}

module _ {A : Type 0} where
  pub is-not-no : {B : Type 0} (a : A) (n : ℕ) → ◌≡◌ {A = Told A} (is a) (no n) → B
  is-not-no a n e = absurd (let z : ◌≡◌ {A = ℕ} 0 1 = cc in omega arith)

  pub is_one : (a c : A) → ◌≡◌ {A = Told A} (is a) (is c) → a ≡ c
  is_one a c e = cc

  pub no_one : (n k : ℕ) → ◌≡◌ {A = Told A} (no n) (no k) → n ≡ k
  no_one n k e = cc

-- two answers that are told alike are one
pub told-one : {A : Type 0} (a b : Result A Refusal) → told a ≡ told b → a ≡ b
told-one (Ok a) (Ok b) e = ap Ok (is_one a b e)
told-one (Ok a) (Err q) e = is-not-no a (number_of q) e
told-one (Err r) (Ok b) e = is-not-no b (number_of r) (sym e)
told-one (Err r) (Err q) e = ap Err (number-one r q (no_one (number_of r) (number_of q) e))

-- a refusal has one of these numbers
abbrev pub Numbered : {A : Type 0} → ℕ → ℕ → Told A → Type 0
Numbered low high (is a) = Unit {0}
Numbered low high (no n) = (low ≤ n) × (n ≤ high)

module _ {A : Type 0} (t : Bool) (a : A) (n low high : ℕ) (h : (low ≤ n) × (n ≤ high)) where
  -- a value, or else a refusal
  pub or-numbered : Numbered low high (cond t (is a) (no n))
  or-numbered = go t
    where
      go : (u : Bool) → Numbered low high (cond u (is a) (no n))
      go true = tt
      go false = h

  -- a refusal, or else a value
  pub first-numbered : Numbered low high (cond t (no n) (is a))
  first-numbered = go t
    where
      go : (u : Bool) → Numbered low high (cond u (no n) (is a))
      go true = h
      go false = tt

module _ (low high : ℕ) where
  -- one after the other
  pub then-numbered : {A B : Type 0} (x : Told A) (f : A → Told B) → Numbered low high x → ((a : A) → Numbered low high (f a)) → Numbered low high (x >>= f)
  then-numbered (is a) f p q = q a
  then-numbered (no n) f p q = p

  -- the number of what is refused
  pub its-number : {A : Type 0} (x : Told A) (n : ℕ) → Numbered low high x → x ≡ no n → (low ≤ n) × (n ≤ high)
  its-number (is a) n p e = is-not-no a n e
  its-number (no k) n p e = let q = no_one k n e in (omega (arith, p.0, q), omega (arith, p.1, q))
