-- A table of names, looked through from its first row on.
use Rattle.std.specs.Prelude.{ℕ, Bool, List, [], ◌∷◌}
use Rattle.base.specs.Choice.{cond}
use Rattle.base.specs.Names.{letters}
use Rattle.base.specs.declared.names.Name.{Name}

-- a row: a name, and what it names
pub record Row (A : Type 0) : Type 0 where
  pub name : List ℕ
  pub value : A

abbrev pub row : {A : Type 0} → List ℕ → A → Row A
row n v = record { name = n; value = v }

-- a row of a table in the code
abbrev pub row_of : {A : Type 0} → Name × A → Row A
row_of r = row (letters r.0) r.1

-- what the first row says that passes a test; or what is said where none does
abbrev pub first_row : {A B : Type 0} → (A → Bool) → (A → B) → B → List A → B
first_row passes says none [] = none
first_row passes says none (r ∷ rs) = cond (passes r) (says r) (first_row passes says none rs)
