-- Tokens: blanks in front change nothing, and a word is the first of them.
use Prim.Native.Nat.{◌+◌, ◌<◌, ◌≤◌, suc, zero, ℕ}
use borrow.Author.Tests.{not-true}
use lib.ListN.{drop, get_or, length, length-drop, length-take, take}
use lib.Seq.{drop-cons, drop-drop, length-take-le}
use mathlib.Core.Bool.{Bool, false, not, true}
use mathlib.Core.List.{List, [], ◌∷◌}
use mathlib.Core.Logic.{◌⊎◌, inl, inr, ⊎_elim}
use mathlib.Core.Path.{◌∙◌, ◌≡◌, ap, refl, sym}
use native.Mathlib.Numerals.{add-one}
use native.Mathlib.Omega.{arith}
use Rattle.base.specs.Choice.{cond}
use Rattle.text.proofs.PartLaws.{run-le}
use Rattle.text.specs.Parts.{drop_front, is_blank, not_blank, run}
use Rattle.text.specs.Tokens.{cons_head, ends_word, first, others, past_first, second_start, starts_word, token_at, tokens}

tok-skip : (xs : List ℕ) → tokens xs ≡ tokens (drop_front is_blank xs)
tok-skip [] = refl
tok-skip (x ∷ xs) = cases (is_blank x) refl (tok-skip xs)
  where
    cases : (t : Bool) → is_blank x ≡ t → tokens xs ≡ tokens (drop_front is_blank xs) → tokens (x ∷ xs) ≡ tokens (drop (cond t (suc (run is_blank xs)) 0) (x ∷ xs))
    cases true e ih = rw e ih
    cases false e ih = refl

tok-word : (xs : List ℕ) → starts_word xs ≡ true → tokens xs ≡ take (run not_blank xs) xs ∷ tokens (drop (run not_blank xs) xs)
tok-word [] e = let z : false ≡ true = e in cc
tok-word (x ∷ xs) e = cases xs (starts_word xs) refl (tok-word xs)
  where
    black : is_blank x ≡ false
    black = not-true _ e

    cases : (ys : List ℕ) (t : Bool) → starts_word ys ≡ t → (starts_word ys ≡ true → tokens ys ≡ take (run not_blank ys) ys ∷ tokens (drop (run not_blank ys) ys)) →
        tokens (x ∷ ys) ≡ take (run not_blank (x ∷ ys)) (x ∷ ys) ∷ tokens (drop (run not_blank (x ∷ ys)) (x ∷ ys))
    cases ys true q ih = rw (black, q, ih q)
    cases [] false q ih = rw black
    cases (y ∷ ys) false q ih = rw (black, q)

front-word : (xs : List ℕ) → (drop_front is_blank xs ≡ []) ⊎ (starts_word (drop_front is_blank xs) ≡ true)
front-word [] = inl refl
front-word (x ∷ xs) = cases (is_blank x) refl (front-word xs)
  where
    cases : (t : Bool) → is_blank x ≡ t → (drop_front is_blank xs ≡ []) ⊎ (starts_word (drop_front is_blank xs) ≡ true) →
        (drop (cond t (suc (run is_blank xs)) 0) (x ∷ xs) ≡ []) ⊎ (starts_word (drop (cond t (suc (run is_blank xs)) 0) (x ∷ xs)) ≡ true)
    cases true e ih = ih
    cases false e ih = inr (rw e)

pub tok-head : (xs : List ℕ) → first (tokens xs) ≡ take (run not_blank (drop_front is_blank xs)) (drop_front is_blank xs)
tok-head xs = ap first (tok-skip xs) ∙ ⊎_elim (λ e. rw e) (λ w. ap first (tok-word (drop_front is_blank xs) w)) (front-word xs)

pub tok-tail : (xs : List ℕ) → others (tokens xs) ≡ tokens (drop (past_first xs) xs)
tok-tail xs =
    ap others (tok-skip xs) ∙ ⊎_elim (λ e. rw e) (λ w. ap others (tok-word (drop_front is_blank xs) w)) (front-word xs) ∙
    ap tokens (drop-drop (run not_blank (drop_front is_blank xs)) (run is_blank xs) xs)

pub tail-drop : (ts : List (List ℕ)) (k : ℕ) → others (drop k ts) ≡ drop (k + 1) ts
tail-drop ts k = go ts k ∙ ap (λ (j : ℕ). drop j ts) (sym (add-one k))
  where
    go : (ts : List (List ℕ)) (k : ℕ) → others (drop k ts) ≡ drop (suc k) ts
    go [] zero = refl
    go [] (suc k) = refl
    go (t ∷ ts) zero = refl
    go (t ∷ ts) (suc k) = go ts k

cons-length : (x : ℕ) (ts : List (List ℕ)) → 0 < length ts → length (cons_head x ts) ≡ length ts
cons-length x [] h = absurd (omega arith)
cons-length x (t ∷ ts) h = refl

some : (xs : List ℕ) → starts_word xs ≡ true → 0 < length (tokens xs)
some [] e = let q : ◌≡◌ {A = ℕ} 0 1 = let z : false ≡ true = e in cc in absurd (omega arith)
some (y ∷ ys) e = rw (not-true (is_blank y) e) (cases (starts_word ys) (tokens ys))
  where
    cases : (t : Bool) (ts : List (List ℕ)) → 0 < length (cond t (cons_head y ts) ((y ∷ []) ∷ ts))
    cases true [] = omega arith
    cases true (u ∷ us) = omega arith
    cases false ts = omega arith

token-count : (x : ℕ) (xs : List ℕ) → length (tokens (x ∷ xs)) ≡ cond (ends_word (x ∷ xs)) (suc (length (tokens xs))) (length (tokens xs))
token-count x xs = cases (is_blank x) (starts_word xs) refl
  where
    cases : (t u : Bool) → starts_word xs ≡ u →
        length (cond t (tokens xs) (cond u (cons_head x (tokens xs)) ((x ∷ []) ∷ tokens xs))) ≡ cond (cond t false (not u)) (suc (length (tokens xs))) (length (tokens xs))
    cases true u q = refl
    cases false true q = cons-length x (tokens xs) (some xs q)
    cases false false q = refl

module _ (s : List ℕ) (i : ℕ) (h : i < length s) where
  pub ends-yes : ends_word (drop i s) ≡ true → length (tokens (drop i s)) ≡ suc (length (tokens (drop (i + 1) s)))
  ends-yes e =
      let d : drop i s ≡ get_or s i 0 ∷ drop (i + 1) s = rw (add-one, drop-cons s i 0) in
      ap (λ (l : List ℕ). length (tokens l)) d ∙ token-count (get_or s i 0) (drop (i + 1) s) ∙
      ap (λ (t : Bool). cond t (suc (length (tokens (drop (i + 1) s)))) (length (tokens (drop (i + 1) s)))) (sym (ap ends_word d) ∙ e)

  pub ends-no : ends_word (drop i s) ≡ false → length (tokens (drop i s)) ≡ length (tokens (drop (i + 1) s))
  ends-no e =
      let d : drop i s ≡ get_or s i 0 ∷ drop (i + 1) s = rw (add-one, drop-cons s i 0) in
      ap (λ (l : List ℕ). length (tokens l)) d ∙ token-count (get_or s i 0) (drop (i + 1) s) ∙
      ap (λ (t : Bool). cond t (suc (length (tokens (drop (i + 1) s)))) (length (tokens (drop (i + 1) s)))) (sym (ap ends_word d) ∙ e)

-- the second token stands where it starts
pub second-part : (xs : List ℕ) → token_at xs 1 ≡ take (length (token_at xs 1)) (drop (second_start xs) xs)
second-part xs =
    let ys = drop (past_first xs) xs in
    let e : token_at xs 1 ≡ first (tokens ys) = sym (ap first (tail-drop (tokens xs) 0)) ∙ ap first (tok-tail xs) in
    let d : drop_front is_blank ys ≡ drop (second_start xs) xs = drop-drop (run is_blank ys) (past_first xs) xs in
    let n = run not_blank (drop_front is_blank ys) in
    let h : first (tokens ys) ≡ take n (drop_front is_blank ys) = tok-head ys in
    let l : length (token_at xs 1) ≡ n = ap length (e ∙ h) ∙ length-take-le n (drop_front is_blank ys) (run-le not_blank (drop_front is_blank ys)) in
    e ∙ h ∙ ap (λ (k : ℕ). take k (drop_front is_blank ys)) (sym l) ∙ ap (λ (zs : List ℕ). take (length (token_at xs 1)) zs) d

pub second_fits : (xs : List ℕ) → second_start xs + length (token_at xs 1) ≤ length xs
second_fits xs =
    let token = token_at xs 1 in
    let a = run-le is_blank xs in
    let b = run-le not_blank (drop_front is_blank xs) in
    let c = run-le is_blank (drop (past_first xs) xs) in
    let e = length-drop (run is_blank xs) xs in
    let f = length-drop (past_first xs) xs in
    let g = length-drop (second_start xs) xs in
    let h = ap length (second-part xs) in
    omega (arith, length-take (length token) (drop (second_start xs) xs))
