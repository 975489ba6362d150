-- An order of refusals, read as 01's order line: each number with the case in which it is given, the first that holds counts.
use Rattle.std.specs.Prelude.{ℕ, Bool, List, [], ◌∷◌}
use Rattle.base.specs.Choice.{cond}
use Rattle.base.specs.Told.{Told, is, no}

-- a number, and the case in which it is given
pub data Refusing : Type 0 where
  refusing : ℕ → Bool → Refusing

infix 70 ◌when◌
abbrev pub ◌when◌ : ℕ → Bool → Refusing
n when given = refusing n given

-- the first number that is given; 0, accepted, where none is
abbrev pub first_of : List Refusing → ℕ
first_of [] = 0
first_of (refusing n given ∷ rest) = cond given n (first_of rest)

-- the value, where no number of the order is given
abbrev pub passing : {A : Type 0} → List Refusing → A → Told A
passing [] a = is a
passing (refusing n given ∷ rest) a = cond given (no n) (passing rest a)
