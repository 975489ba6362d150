-- A line and what comes after it, by cursor: each law is one unfolding of its definition. And the line of the first byte over 127, found
-- over all bytes, is the first line that is not ASCII, by induction over the bytes. Assumes nothing.
use Prim.Native.Nat.{◌+◌, ◌-◌, ◌<◌, ◌≤◌, suc, ℕ}
use borrow.Author.Tests.{eqb-true, leb-false, le-ltb, lt-ltb}
use lib.Dec.{eqb, leb, ltb}
use lib.ListN.{drop, drop_of_length-le, length, length-drop, take}
use lib.Seq.{length-take-le}
use mathlib.Core.Bool.{Bool, false, not, true, ◌&&◌}
use mathlib.Core.List.{List, [], ◌∷◌}
use mathlib.Core.Path.{◌∙◌, ◌≡◌, ap, refl}
use native.Mathlib.Omega.{arith}
use Rattle.std.specs.Prelude.{Some, None, position, count_by}
use Rattle.std.specs.List.{position_or_len, list_all}
use Rattle.std.specs.Char as Char
use Rattle.std.proofs.Common.{nat_lt, nat_le, cond as std-cond}
use Rattle.std.proofs.lemmas.Bool.Decides.{nat_tests}
use Rattle.std.proofs.lemmas.List.Sums.{sum_by-cons}
use Rattle.base.proofs.Tests.{ltb-same}
use Rattle.base.specs.Choice.{cond}
use Rattle.reader.specs.Reader.{after_line, first_foreign, is_ascii, line_at}
use Rattle.text.proofs.LineLaws.{line-at}
use Rattle.text.proofs.PartLaws.{run-le}
use Rattle.text.specs.Tokens.{cons_head}
use Rattle.text.specs.Lines.{foreign_line, lines, not_end}
use Rattle.text.specs.Parts.{run}

module _ (s : List ℕ) (at : ℕ) where
  pub line-part : (e : ℕ) → e ≡ at + run not_end (drop at s) → take (e - at) (drop at s) ≡ line_at s at
  unfolding line_at
  line-part e h =
      let q : e - at ≡ run not_end (drop at s) = omega arith in
      rw q

  pub line-none : length s ≤ at → take 0 s ≡ line_at s at
  unfolding line_at
  line-none h = rw drop_of_length-le

  pub after-some : (e : ℕ) → at < length s → e ≡ at + run not_end (drop at s) → e + 1 ≡ after_line s at
  unfolding after_line
  after-some e h q = rw (lt-ltb at (length s) h, q)

  pub after_none : length s ≤ at → at ≡ after_line s at
  unfolding after_line
  after_none h = rw (le-ltb at (length s) h)

-- the line at a place of the text is the first of the lines from there on, and the others follow where the next one starts
module _ (s : List ℕ) (at : ℕ) (h : at < length s) where
  pub lines_at : lines (drop at s) ≡ line_at s at ∷ lines (drop (after_line s at) s)
  lines_at =
      let e = at + run not_end (drop at s) in
      line-at s at e h refl ∙ rw (line-part s at e refl, after-some s at e h refl)

  line-length : length (line_at s at) ≡ run not_end (drop at s)
  unfolding line_at
  line-length = length-take-le (run not_end (drop at s)) (drop at s) (run-le not_end (drop at s))

  pub after-line : at + length (line_at s at) + 1 ≡ after_line s at
  after-line = omega (arith, line-length, after-some s at (at + run not_end (drop at s)) h refl)

  pub line-inside : at + length (line_at s at) ≤ length s
  line-inside = omega (arith, line-length, run-le not_end (drop at s), length-drop at s)

-- the first line that is not ASCII is the line of the first byte over 127
by-line : (n x : ℕ) (xs : List ℕ) (ls : List (List ℕ)) (ends low : Bool) → eqb x 10 ≡ ends → leb x 127 ≡ low → ((m : ℕ) → first_foreign m ls ≡ foreign_line m xs) →
    first_foreign n (cond ends ([] ∷ ls) (cons_head x ls)) ≡ cond low (foreign_line (cond ends (n + 1) n) xs) n
unfolding is_ascii
by-line n x xs ls true true q l h = h (n + 1)
by-line n x xs ls true false q l h = absurd (omega (arith, eqb-true x 10 q, leb-false x 127 l))
by-line n x xs [] false true q l h = rw l (h n)
by-line n x xs (t ∷ ts) false true q l h = rw l (h n)
by-line n x xs [] false false q l h = rw l
by-line n x xs (t ∷ ts) false false q l h = rw l

pub foreign-by-line : (n : ℕ) (xs : List ℕ) → first_foreign n (lines xs) ≡ foreign_line n xs
foreign-by-line n [] = refl
foreign-by-line n (x ∷ xs) = by-line n x xs (lines xs) (eqb x 10) (leb x 127) refl refl (λ m. foreign-by-line m xs)

-- over all bytes: as many lines on as end before it
abbrev pub low : ℕ → Bool
low b = Char.is_ascii b

abbrev pub ends : List ℕ → ℕ
ends = count_by (λ x. eqb x 10)

low-is : (x : ℕ) → low x ≡ leb x 127
low-is x = grind (arith, nat_tests)

ends-cons : (x : ℕ) (xs : List ℕ) → ends (x ∷ xs) ≡ std-cond (eqb x 10) 1 0 + ends xs
ends-cons x xs = sum_by-cons (λ x. std-cond (eqb x 10) 1 0) x xs

abbrev first : List ℕ → ℕ
first = position_or_len (λ x. not (low x))

one-more : (x : ℕ) (xs : List ℕ) (k : ℕ) → ends (take (1 + k) (x ∷ xs)) ≡ std-cond (eqb x 10) 1 0 + ends (take k xs)
one-more x xs k =
    let e : 1 + k ≡ suc k = omega arith in
    rw e (ends-cons x (take k xs))

counts-on : (u : Bool) (n m : ℕ) → cond u (n + 1) n + m ≡ n + (std-cond u 1 0 + m)
counts-on true n m = omega arith
counts-on false n m = omega arith

near : (n x : ℕ) (xs : List ℕ) (t : Bool) → leb x 127 ≡ t → ((m : ℕ) → foreign_line m xs ≡ std-cond (nat_lt (first xs) (length xs)) (m + ends (take (first xs) xs)) 0) →
    cond t (foreign_line (cond (eqb x 10) (n + 1) n) xs) n ≡ std-cond (nat_lt (std-cond (not (not t)) (1 + first xs) 0) (suc (length xs))) (n + ends (take (std-cond (not (not t)) (1 + first xs) 0) (x ∷ xs))) 0
near n x xs true q h =
    let k = first xs in
    let l : ltb (1 + k) (suc (length xs)) ≡ ltb k (length xs) = ltb-same (1 + k) (suc (length xs)) k (length xs) (λ z. omega arith) (λ z. omega arith) in
    rw (l, one-more x xs k) (h (cond (eqb x 10) (n + 1) n) ∙ ap (λ (m : ℕ). std-cond (ltb k (length xs)) m 0) (counts-on (eqb x 10) n (ends (take k xs))))
near n x xs false q h =
    let l : ltb 0 (suc (length xs)) ≡ true = lt-ltb 0 (suc (length xs)) (omega arith) in
    rw l (omega arith)

found : (xs : List ℕ) (n : ℕ) → foreign_line n xs ≡ std-cond (nat_lt (first xs) (length xs)) (n + ends (take (first xs) xs)) 0
found [] n = refl
found (x ∷ xs) n = rw low-is (near n x xs (leb x 127) refl (found xs))

pub foreign_past : (xs : List ℕ) (n : ℕ) → position (λ x. not (low x)) xs ≡ None → foreign_line n xs ≡ 0
foreign_past xs n e = found xs n ∙ go (nat_lt (first xs) (length xs)) e
  where
    go : (t : Bool) → std-cond t (Some (first xs)) None ≡ None → std-cond t (n + ends (take (first xs) xs)) 0 ≡ 0
    go true e = cc
    go false e = refl

pub foreign_at : (xs : List ℕ) (n i : ℕ) → position (λ x. not (low x)) xs ≡ Some i → foreign_line n xs ≡ n + ends (take i xs)
foreign_at xs n i e = found xs n ∙ go (nat_lt (first xs) (length xs)) e
  where
    go : (t : Bool) → std-cond t (Some (first xs)) None ≡ Some i → std-cond t (n + ends (take (first xs) xs)) 0 ≡ n + ends (take i xs)
    go true e = let q : first xs ≡ i = cc in rw q
    go false e = cc

-- bytes up to 127, one after the other
pub all_ascii : (s : List ℕ) → list_all (λ x. nat_le x 127) s ≡ is_ascii s
unfolding is_ascii
all_ascii [] = refl
all_ascii (x ∷ xs) = ap (λ (t : Bool). leb x 127 && t) (all_ascii xs)
