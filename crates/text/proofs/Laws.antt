-- An immediate that is refused is 24: each test of the definition is looked at. Assumes nothing.
use Prim.Native.Nat.{ℕ}
use mathlib.Core.Path.{◌≡◌, refl, sym, ◌∙◌}
use mathlib.Core.List.{List, [], ◌∷◌}
use mathlib.Core.Bool.{Bool, true, false}
use lib.Dec.{eqb, leb}
use lib.ListN.{drop}
use Rattle.base.specs.Choice.{cond}
use Rattle.base.specs.Told.{Told, is, no}
use Rattle.base.proofs.ToldLaws.{is-not-no, no_one}
use Rattle.text.specs.Immediates.{all_digits, value_from, at_most, digits, after_plus, is_hex, value_of, immediate}

-- refused only by 24
abbrev By24 : Told ℕ → Type 0
By24 (is v) = Unit {0}
By24 (no n) = n ≡ 24

by-either : (t : Bool) (a b : Told ℕ) → By24 a → By24 b → By24 (cond t a b)
by-either true a b p q = p
by-either false a b p q = q

at-most-by : (n : ℕ) → By24 (at_most n)
at-most-by n = by-either (leb n 65535) (is n) (no 24) tt refl

digits-by : (base : ℕ) (xs : List ℕ) → By24 (digits base xs)
digits-by base [] = refl
digits-by base (x ∷ xs) =
    by-either (all_digits base (x ∷ xs)) (at_most (value_from base 0 (x ∷ xs))) (no 24) (at-most-by (value_from base 0 (x ∷ xs))) refl

immediate-by : (t : List ℕ) → By24 (immediate t)
unfolding immediate
immediate-by [] = refl
immediate-by (x ∷ xs) =
    by-either (eqb x 35) (value_of xs) (no 24)
    (by-either (is_hex xs) (digits 16 (after_plus (drop 2 xs))) (digits 10 (after_plus xs)) (digits-by 16 (after_plus (drop 2 xs))) (digits-by 10 (after_plus xs)))
    refl

pub immediate-refused : (t : List ℕ) (n : ℕ) → immediate t ≡ no n → n ≡ 24
immediate-refused t n = go (immediate t) (immediate-by t)
  where
    go : (a : Told ℕ) → By24 a → a ≡ no n → n ≡ 24
    go (is v) p e = is-not-no v n e
    go (no k) p e = sym (no_one k n e) ∙ p
