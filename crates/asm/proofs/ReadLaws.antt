-- A trimmed line by its first byte, its final colons and its tokens. Assumes nothing.
use Prim.Native.Nat.{◌<◌, ◌≤◌, ℕ}
use borrow.Author.Tests.{eq-eqb, le-ltb, lt-ltb, ne_eqb}
use lib.ListN.{get_or, length}
use mathlib.Core.List.{List, [], ◌∷◌}
use mathlib.Core.Path.{◌≡◌, refl}
use native.Mathlib.Omega.{arith}
use Rattle.asm.specs.Reading.{name_in, read_trimmed, said, skip}
use Rattle.base.specs.Told.{is}
use Rattle.parser.specs.Parse.{parse}
use Rattle.text.specs.Tokens.{tokens}
use Rattle.asm.specs.Reading as Reading

module _ (at : ℕ) (line : List ℕ) (some : 0 < length line) where
  pub read-comment : get_or line 0 0 ≡ 59 → is skip ≡ read_trimmed at line
  read-comment = go line some
    where
      go : (line : List ℕ) → 0 < length line → get_or line 0 0 ≡ 59 → is skip ≡ read_trimmed at line
      go [] h e = absurd (omega arith)
      go (x ∷ xs) h e = rw (eq-eqb x 59 e)

  pub read-label : (get_or line 0 0 ≡ 59 → ⊥) → length (name_in line) < length line → is (Reading.label at (length (name_in line))) ≡ read_trimmed at line
  read-label = go line some
    where
      go : (line : List ℕ) → 0 < length line → (get_or line 0 0 ≡ 59 → ⊥) → length (name_in line) < length line → is (Reading.label at (length (name_in line))) ≡ read_trimmed at line
      go [] h e l = absurd (omega arith)
      go (x ∷ xs) h e l = rw (ne_eqb x 59 e, lt-ltb (length (name_in (x ∷ xs))) (length (x ∷ xs)) l)

  pub read-said : (get_or line 0 0 ≡ 59 → ⊥) → length line ≤ length (name_in line) → said at line (parse (tokens line)) ≡ read_trimmed at line
  read-said = go line some
    where
      go : (line : List ℕ) → 0 < length line → (get_or line 0 0 ≡ 59 → ⊥) → length line ≤ length (name_in line) → said at line (parse (tokens line)) ≡ read_trimmed at line
      go [] h e l = absurd (omega arith)
      go (x ∷ xs) h e l = rw (ne_eqb x 59 e, le-ltb (length (name_in (x ∷ xs))) (length (x ∷ xs)) l)

pub read-empty : (at : ℕ) (line : List ℕ) → length line ≡ 0 → is skip ≡ read_trimmed at line
read-empty at [] h = refl
read-empty at (x ∷ xs) h = absurd (omega arith)
