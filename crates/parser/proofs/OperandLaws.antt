-- Operands by their place in a line: a token has a byte, so an empty one is one that is missing. Assumes nothing.
use Prim.Native.Nat.{ℕ, zero, suc, ◌<◌, ◌-◌}
use mathlib.Core.Path.{◌≡◌, refl, ap}
use mathlib.Core.List.{List, [], ◌∷◌}
use mathlib.Core.Bool.{Bool, true, false}
use native.Mathlib.Omega.{arith}
use lib.ListN.{length, drop}
use Rattle.base.specs.Choice.{cond}
use Rattle.base.specs.Told.{Told, is, no, ◌>>=◌}
use Rattle.text.specs.Parts.{is_blank}
use Rattle.text.specs.Tokens.{starts_word, cons_head, tokens, first, token_at}
use Rattle.std.specs.Prelude.{Option}
use Rattle.mnemonics.specs.Mnemonics.{kind_of}
use Rattle.mnemonics.specs.declared.Kind.{Kind}
use Rattle.parser.specs.Parse.{counted, parse}
use Rattle.parser.specs.Operands.{nth}

-- none of them is empty
abbrev Full : List (List ℕ) → Type 0
Full [] = Unit {0}
Full (t ∷ ts) = (0 < length t) × Full ts

full : (s : List ℕ) → Full (tokens s)
full [] = tt
full (x ∷ xs) = cases (is_blank x) (starts_word xs) (tokens xs) (full xs)
  where
    cases : (t u : Bool) (ts : List (List ℕ)) → Full ts → Full (cond t ts (cond u (cons_head x ts) ((x ∷ []) ∷ ts)))
    cases true u ts f = f
    cases false true [] f = (omega arith, f)
    cases false true (y ∷ ys) f = (omega arith, f.1)
    cases false false ts f = (omega arith, f)

-- a token is missing where it would be empty
missing : (ts : List (List ℕ)) (k : ℕ) → Full ts → length (first (drop k ts)) ≡ 0 → nth k is ts ≡ no 21
missing [] k f e = refl
missing (t ∷ ts) zero f e = absurd (omega (arith, f.0))
missing (t ∷ ts) (suc k) f e = missing ts k f.1 e

there : (ts : List (List ℕ)) (k : ℕ) → (length (first (drop k ts)) ≡ 0 → ⊥) → nth k is ts ≡ is (first (drop k ts))
there [] zero h = absurd (h refl)
there [] (suc k) h = absurd (h refl)
there (t ∷ ts) zero h = refl
there (t ∷ ts) (suc k) h = there ts k h

pub token_missing : (s : List ℕ) (k : ℕ) → length (token_at s k) ≡ 0 → nth k is (tokens s) ≡ no 21
token_missing s k e = missing (tokens s) k (full s) e

pub token_there : (s : List ℕ) (k : ℕ) → (length (token_at s k) ≡ 0 → ⊥) → nth k is (tokens s) ≡ is (token_at s k)
token_there s k h = there (tokens s) k h

pub ruleset token_laws = (token_missing, token_there)

-- what reads token k reads it where it is there
pub nth_read : {A : Type 0} (k : ℕ) (reads : List ℕ → Told A) (ts : List (List ℕ)) → nth k reads ts ≡ (nth k is ts >>= reads)
nth_read k reads [] = refl
nth_read zero reads (t ∷ ts) = refl
nth_read (suc k) reads (t ∷ ts) = nth_read k reads ts

-- a line with no token, and one whose mnemonic is its token 0
pub parse_none : (ts : List (List ℕ)) → length ts ≡ 0 → parse ts ≡ no 23
unfolding parse
parse_none [] e = refl
parse_none (t ∷ ts) e = absurd (omega arith)

some : (ts : List (List ℕ)) → (length ts ≡ 0 → ⊥) → parse ts ≡ counted (kind_of (first (drop 0 ts))) (length ts - 1) ts
unfolding parse
some [] h = absurd (h refl)
some (t ∷ ts) h =
    let e : length ts ≡ length (t ∷ ts) - 1 = omega arith in
    ap (λ (n : ℕ). counted (kind_of t) n (t ∷ ts)) e

pub parse_some : (s : List ℕ) (o : Option Kind) → (length (tokens s) ≡ 0 → ⊥) → o ≡ kind_of (token_at s 0) → parse (tokens s) ≡ counted o (length (tokens s) - 1) (tokens s)
parse_some s o h e = rw e (some (tokens s) h)
