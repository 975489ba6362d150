-- Runs, trimming and sameness, at an index of a list.
use Prim.Native.Nat.{◌+◌, ◌-◌, ◌*◌, ◌/◌, ◌%◌, ◌<◌, ◌≤◌, suc, ℕ}
use lib.ListN.{drop, get_or, length, length-drop, take}
use lib.Seq.{take_all, take-suc}
use mathlib.Core.Bool.{Bool, false, not, true}
use mathlib.Core.List.{List, [], ◌++◌, ◌∷◌}
use mathlib.Core.Path.{◌∙◌, ◌≡◌, ap, refl, sym}
use native.Mathlib.Nat.{div-add-mod'}
use native.Mathlib.Numerals.{add-one}
use native.Mathlib.Omega.{arith}
use Rattle.base.proofs.SameLaws.{same-equal, same_self}
use Rattle.base.specs.Bytes.{same}
use Rattle.base.specs.Choice.{cond}
use Rattle.std.specs.Prelude.{Option, Some, None, unwrap_or, position}
use Rattle.std.specs.List.{AllWithin, HoldsAt, position_or_len, range_with_len}
use Rattle.std.proofs.lemmas.List.{ext_get_or}
use Rattle.std.proofs.lemmas.Nat.{mod_below}
use Rattle.std.proofs.lemmas.List.FromFn.{get_or-range_with_len, length-range_with_len}
use Rattle.std.proofs.Common.{MatchBool, cond as std-cond, nat_lt, subst}
use borrow.Author.Tests.{ltb-false}
use Rattle.text.specs.Parts.{drop_end, keep_if, run}

-- a test that says yes of two that are equal, and of no others
pub same_is : (t : Bool) (a b : List ℕ) → (t ≡ true → a ≡ b) → (a ≡ b → t ≡ true) → t ≡ same a b
same_is true a b f g = rw (f refl) (sym (same_self b))
same_is false a b f g = go (same a b) refl
  where
    go : (u : Bool) → same a b ≡ u → false ≡ u
    go true e = let z : false ≡ true = g (same-equal a b e) in cc
    go false e = refl

-- what `all` answers of the numbers below `m`
abbrev pub AllSays : (t : Bool) (P : ℕ → Type 0) (m : ℕ) → Type 0
AllSays t P m = MatchBool t (AllWithin P (range_with_len 0 m) 0 (length (range_with_len 0 m))) ((k : ℕ) × (k < length (range_with_len 0 m)) × HoldsAt (λ i. P i → ⊥) (range_with_len 0 m) k)

says-each : (P : ℕ → Type 0) (m : ℕ) → AllSays true P m → (k : ℕ) → k < m → P k
says-each P m h k i = subst P (omega (arith, get_or-range_with_len 0 m k 0 i)) (h k 0 (omega arith) (omega (arith, length-range_with_len 0 m)))

-- where some number fails, it fails of `a` beside `b`, though each number holds of `a` beside itself: so the two differ
says-differ : (P : List ℕ → ℕ → Type 0) (m : ℕ) (a b : List ℕ) → ((k : ℕ) → P a k) → AllSays false (P b) m → false ≡ same a b
says-differ P m a b own h = same_is false a b (λ z. cc) (λ z. absurd (h.2 0 (subst (λ x. P x (get_or (range_with_len 0 m) h.0 0)) z (own _))))

-- the two have the same byte at `k`
abbrev pub AlikeAt : (a b : List ℕ) (k : ℕ) → Type 0
AlikeAt a b k = get_or a k 0 ≡ get_or b k 0

-- they are alike in the four bytes before the last `i` fours, and in the one at `i`
abbrev pub Fours : (a b : List ℕ) (i : ℕ) → Type 0
Fours a b i =
    let e = length a - 4 * i in
    AlikeAt a b (e - 1) × AlikeAt a b (e - 2) × AlikeAt a b (e - 3) × AlikeAt a b (e - 4) × AlikeAt a b i

-- they are alike in the byte that is `i` from the end of what the fours leave at the front
abbrev pub Rest : (a b : List ℕ) (i : ℕ) → Type 0
Rest a b i = AlikeAt a b (length a % 4 - 1 - i)

-- where some of the fours differ, so do the two
pub fours-differ : (m : ℕ) (a b : List ℕ) → AllSays false (Fours a b) m → false ≡ same a b
fours-differ m a b = says-differ (Fours a) m a b (λ k. (refl, refl, refl, refl, refl))

-- where the fours are alike, the rest decides
pub fours-alike : (t : Bool) (a b : List ℕ) → length a ≡ length b → AllSays true (Fours a b) (length a / 4) → AllSays t (Rest a b) (length a % 4) → t ≡ same a b
fours-alike true a b e f h = same_is true a b (λ _. ext_get_or 0 a b e at) (λ _. refl)
  where
    at : (k : ℕ) → k < length a → AlikeAt a b k
    at k i =
        let q = length a - 1 - k in
        grind (arith, says-each (Rest a b) (length a % 4) h (length a % 4 - 1 - k), says-each (Fours a b) (length a / 4) f (q / 4), div-add-mod' q 4, mod_below q 4 (omega arith), div-add-mod' (length a) 4, mod_below (length a) 4 (omega arith))
fours-alike false a b e f h = says-differ (Rest a) (length a % 4) a b (λ k. refl) h

-- a run is no longer than the list
pub run-le : (p : ℕ → Bool) (xs : List ℕ) → run p xs ≤ length xs
run-le p [] = omega arith
run-le p (x ∷ xs) = cases (p x) (run-le p xs)
  where
    cases : (t : Bool) → run p xs ≤ length xs → cond t (suc (run p xs)) 0 ≤ suc (length xs)
    cases true h = omega arith
    cases false h = omega arith

-- the rest of a list as a part of it
pub rest : (a : ℕ) (s : List ℕ) → take (length s - a) (drop a s) ≡ drop a s
rest a s = take_all (length s - a) (drop a s) (omega (arith, length-drop a s))

-- what dropping at the end leaves, with one byte more
pub snoc-drops : (p : ℕ → Bool) (xs : List ℕ) (y : ℕ) → p y ≡ true → drop_end p (xs ++ (y ∷ [])) ≡ drop_end p xs
snoc-drops p [] y e = rw e
snoc-drops p (x ∷ xs) y e = ap (keep_if (p x) x) (snoc-drops p xs y e)

snoc-keeps : (p : ℕ → Bool) (xs : List ℕ) (y : ℕ) → p y ≡ false → drop_end p (xs ++ (y ∷ [])) ≡ xs ++ (y ∷ [])
snoc-keeps p [] y e = rw e
snoc-keeps p (x ∷ []) y e = rw (snoc-keeps p [] y e)
snoc-keeps p (x ∷ z ∷ xs) y e = rw (snoc-keeps p (z ∷ xs) y e)

module _ (p : ℕ → Bool) (s : List ℕ) (n : ℕ) (pos : 0 < n) (h : n ≤ length s) where
  last_byte : take n s ≡ take (n - 1) s ++ (get_or s (n - 1) 0 ∷ [])
  last_byte =
      let e : n ≡ suc (n - 1) = omega (arith, add-one (n - 1)) in
      let l : n - 1 < length s = omega arith in
      ap (λ (k : ℕ). take k s) e ∙ take-suc s (n - 1) 0 l

  pub end_step : p (get_or s (n - 1) 0) ≡ true → drop_end p (take n s) ≡ drop_end p (take (n - 1) s)
  end_step e = rw last_byte (snoc-drops p (take (n - 1) s) (get_or s (n - 1) 0) e)

  pub end-stop : p (get_or s (n - 1) 0) ≡ false → drop_end p (take n s) ≡ take n s
  end-stop e = ap (drop_end p) last_byte ∙ snoc-keeps p (take (n - 1) s) (get_or s (n - 1) 0) e ∙ sym last_byte

-- the last byte of a list: dropped where it passes the test, and else all is kept
module _ (p : ℕ → Bool) (s : List ℕ) (h : 1 ≤ length s) where
  pub last_drops : p (get_or s (length s - 1) 0) ≡ true → drop_end p (take (length s - 1) s) ≡ drop_end p s
  last_drops e = sym (end_step p s (length s) (omega arith) (omega arith) e) ∙ ap (drop_end p) (take_all (length s) s (omega arith))

  pub last_keeps : p (get_or s (length s - 1) 0) ≡ false → s ≡ drop_end p s
  last_keeps e =
      let a : take (length s) s ≡ s = take_all (length s) s (omega arith) in
      sym a ∙ sym (end-stop p s (length s) (omega arith) (omega arith) e) ∙ ap (drop_end p) a

pub ruleset end_laws = (last_drops, last_keeps)

-- what is left is no longer
pub end-le : (p : ℕ → Bool) (xs : List ℕ) → length (drop_end p xs) ≤ length xs
end-le p [] = omega arith
end-le p (x ∷ xs) = cases (p x) (drop_end p xs) (end-le p xs)
  where
    cases : (t : Bool) (ys : List ℕ) → length ys ≤ length xs → length (keep_if t x ys) ≤ suc (length xs)
    cases true [] h = omega arith
    cases false [] h = omega arith
    cases t (y ∷ ys) h = omega arith

-- a run ends where the first byte is that does not pass
found_at : (n m : ℕ) → n ≤ m → unwrap_or (std-cond (nat_lt n m) (Some n) None) m ≡ n
found_at n m h = go (nat_lt n m) refl
  where
    go : (t : Bool) → nat_lt n m ≡ t → unwrap_or (std-cond t (Some n) None) m ≡ n
    go true e = refl
    go false e = omega (arith, ltb-false n m e)

module _ (p : ℕ → Bool) where
  runs_while : (xs : List ℕ) → position_or_len (λ x. not (p x)) xs ≡ run p xs
  runs_while [] = refl
  runs_while (x ∷ xs) = turn (p x) (position_or_len (λ x. not (p x)) xs) (run p xs) (runs_while xs)
    where
      turn : (t : Bool) (n m : ℕ) → n ≡ m → std-cond (not (not t)) (1 + n) 0 ≡ cond t (suc m) 0
      turn true n m e = omega arith
      turn false n m e = refl

  runs_until : (xs : List ℕ) → position_or_len p xs ≡ run (λ x. not (p x)) xs
  runs_until [] = refl
  runs_until (x ∷ xs) = turn (p x) (position_or_len p xs) (run (λ x. not (p x)) xs) (runs_until xs)
    where
      turn : (t : Bool) (n m : ℕ) → n ≡ m → std-cond (not t) (1 + n) 0 ≡ cond (not t) (suc m) 0
      turn true n m e = refl
      turn false n m e = omega arith

  pub run_while : (xs : List ℕ) {r : Option ℕ} → r ≡ position (λ x. not (p x)) xs → unwrap_or r (length xs) ≡ run p xs
  run_while xs e =
      rw e (found_at (position_or_len (λ x. not (p x)) xs) (length xs) (omega (arith, runs_while xs, run-le p xs)) ∙ runs_while xs)

  pub run_until : (xs : List ℕ) {r : Option ℕ} → r ≡ position p xs → unwrap_or r (length xs) ≡ run (λ x. not (p x)) xs
  run_until xs e =
      rw e (found_at (position_or_len p xs) (length xs) (omega (arith, runs_until xs, run-le (λ x. not (p x)) xs)) ∙ runs_until xs)
