-- What comes back where an entry may refuse: a value, or 01's number of the refusal.
use Rattle.std.specs.Prelude.{ℕ, Result, Ok, Err}
use Rattle.base.specs.Numbers.{number_of}
use Rattle.base.specs.declared.refusals.Refusal.{Refusal}

pub data Told (A : Type 0) : Type 0 where
  is : A → Told A
  no : ℕ → Told A

-- what a function's answer tells
abbrev pub told : {A : Type 0} → Result A Refusal → Told A
told (Ok a) = is a
told (Err r) = no (number_of r)

-- what comes of a value, or the refusal that stands before it: a `do` is a chain of these, and `?` in the code
infixl 20 ◌>>=◌
abbrev pub ◌>>=◌ : {A B : Type 0} → Told A → (A → Told B) → Told B
is a >>= f = f a
no n >>= f = no n
