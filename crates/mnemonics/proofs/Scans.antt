-- A row is found through the library's folding of letters as by the definition's: a name in capitals is a token's in lower case
-- exactly where it is in upper case. Assumes nothing.
use Prim.Native.Nat.{ℕ}
use mathlib.Core.Path.{◌≡◌, refl, sym}
use mathlib.Core.List.{List, [], ◌∷◌, map}
use mathlib.Core.Bool.{Bool, true, false, ◌&&◌}
use native.Mathlib.Omega.{arith}
use denote.Ref.{Bor}
use lib.Dec.{eqb, leb}
use Rattle.std.specs.Prelude.{Option, Some, None}
use Rattle.std.specs.Char.{to_ascii_lowercase}
use Rattle.std.specs.List.{find}
use Rattle.std.specs.Option.{option_map}
use Rattle.std.proofs.Common.{cond as std-cond}
use Rattle.std.proofs.lemmas.Bool.Decides.{nat_tests}
use Rattle.base.specs.Bytes.{same}
use Rattle.base.specs.Choice.{cond}
use Rattle.base.specs.Names.{letters}
use Rattle.base.specs.declared.names.Name.{Name}
use Rattle.base.proofs.SameLaws.{same-equal, same_self}
use Rattle.base.proofs.Tests.{and_left, and_right}
use Rattle.mnemonics.specs.Tables.{Row, row_of}
use Rattle.mnemonics.specs.Mnemonics.{upper, kind_in}
use Rattle.mnemonics.specs.declared.Kind.{Kind}

-- a capital letter
abbrev pub is_capital : ℕ → Bool
is_capital b = leb 65 b && leb b 90

letter : (b c : ℕ) → is_capital b ≡ true → eqb (upper c) b ≡ eqb (to_ascii_lowercase b) (to_ascii_lowercase c)
unfolding upper
letter b c h = grind (arith, nat_tests)

-- a test that holds of each
abbrev pub every : {A : Type 0} → (A → Bool) → List A → Bool
every rule [] = true
every rule (x ∷ xs) = rule x && every rule xs

-- a name in capitals, folded as the token is
pub folds : (name token : List ℕ) → every is_capital name ≡ true → same (map upper token) name ≡ same (map to_ascii_lowercase name) (map to_ascii_lowercase token)
folds [] [] h = refl
folds [] (c ∷ cs) h = refl
folds (b ∷ bs) [] h = refl
folds (b ∷ bs) (c ∷ cs) h =
    rw (letter b c (and_left (is_capital b) (every is_capital bs) h), folds bs cs (and_right (is_capital b) (every is_capital bs) h))

-- the library's answer to whether two lists are equal is the definition's
pub same_is : (t : Bool) (a b : List ℕ) → (t ≡ true → a ≡ b) → (a ≡ b → t ≡ true) → t ≡ same a b
same_is true a b f g = rw (f refl) (sym (same_self b))
same_is false a b f g = go (same a b) refl
  where
    go : (u : Bool) → same a b ≡ u → false ≡ u
    go true e = let z : false ≡ true = g (same-equal a b e) in cc
    go false e = refl

-- a row of the code's table, and whether the token spells it
abbrev pub Entry : Type 0
Entry = Name × Kind

abbrev pub spelled : List ℕ → Entry → Bool
spelled token m = same (map to_ascii_lowercase (letters m.0)) (map to_ascii_lowercase token)

abbrev pub capitals : Row Kind → Bool
capitals r = every is_capital r.name

pub found : (token : List ℕ) (ms : List Entry) → every capitals (map row_of ms) ≡ true → option_map (λ (m : Entry). m.1) (find (spelled token) ms) ≡ kind_in (map row_of ms) (map upper token)
found token [] h = refl
found token (m ∷ ms) h =
    go (spelled token m) (same (map upper token) (letters m.0)) (folds (letters m.0) token (and_left (capitals (row_of m)) (every capitals (map row_of ms)) h)) (found token ms (and_right (capitals (row_of m)) (every capitals (map row_of ms)) h))
  where
    go : (t u : Bool) → u ≡ t → option_map (λ (m : Entry). m.1) (find (spelled token) ms) ≡ kind_in (map row_of ms) (map upper token) →
        option_map (λ (m : Entry). m.1) (std-cond t (Some m) (find (spelled token) ms)) ≡ cond u (Some m.1) (kind_in (map row_of ms) (map upper token))
    go true true q e = refl
    go false false q e = e
    go true false q e = cc
    go false true q e = cc

-- what is read of the row found
pub row-read : {A B : Type 0} (f : A → B) (o : Option (Bor A)) → option_map (λ (y : Bor A). f y.now) o ≡ option_map f (option_map (λ (y : Bor A). y.now) o)
row-read f None = refl
row-read f (Some y) = refl
