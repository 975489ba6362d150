-- Lines of printed bytes, each ended by byte 10, are the lines of the text that they make, and no byte of it is foreign: a printed byte
-- is neither 10 nor over 127. Assumes nothing.
use Prim.Native.Nat.{ℕ, ◌+◌, ◌≤◌}
use mathlib.Core.Path.{◌≡◌, refl, ap, ◌∙◌}
use mathlib.Core.Bool.{Bool, true, ◌&&◌}
use mathlib.Core.List.{List, [], ◌∷◌, ◌++◌}
use native.Mathlib.Omega.{arith}
use borrow.Author.Tests.{leb-true, le-leb, ne_eqb}
use lib.Dec.{leb}
use Rattle.base.proofs.Tests.{both}
use Rattle.text.specs.Lines.{lines, ended, foreign_line}
use Rattle.text.proofs.JoinedLaws.{joined, is_plain, every, every-parts, every_append, ranged, Plains}

-- a byte of a line, from 32 to 93: each plain one is, and the space and the colon
abbrev pub is_printed : ℕ → Bool
is_printed b = leb 32 b && leb b 93

printed-byte : (b : ℕ) → 32 ≤ b → b ≤ 93 → is_printed b ≡ true
printed-byte b l h = rw (le-leb 32 b l, le-leb b 93 h)

pub printed-range : (b : ℕ) → is_printed b ≡ true → (32 ≤ b) × (b ≤ 93)
printed-range b e = let h = both (leb 32 b) (leb b 93) e in (leb-true 32 b h.0, leb-true b 93 h.1)

pub plain-printed : (xs : List ℕ) → every is_plain xs ≡ true → every is_printed xs ≡ true
plain-printed [] e = refl
plain-printed (x ∷ xs) e =
    let h = every-parts is_plain x xs e in
    let r = ranged x h.0 in
    let l : 32 ≤ x = omega (arith, r.low) in
    rw (printed-byte x l r.high) (plain-printed xs h.1)

pub printed-joined : (ts : List (List ℕ)) → Plains ts → every is_printed (joined ts) ≡ true
printed-joined [] h = refl
printed-joined ([] ∷ ts) h = absurd h
printed-joined ((x ∷ xs) ∷ []) h = plain-printed (x ∷ xs) h.0
printed-joined ((x ∷ xs) ∷ u ∷ ts) h = every_append is_printed (x ∷ xs) (32 ∷ joined (u ∷ ts)) (plain-printed (x ∷ xs) h.0) (printed-joined (u ∷ ts) h.1)

-- a line and its byte 10, and what follows
line_first : (l r : List ℕ) → every is_printed l ≡ true → lines (l ++ 10 ∷ r) ≡ l ∷ lines r
line_first [] r e = refl
line_first (x ∷ xs) r e =
    let h = every-parts is_printed x xs e in
    let q = printed-range x h.0 in
    let l = q.0 in
    rw (ne_eqb x 10 (λ z. omega arith), line_first xs r h.1)

abbrev pub Printed : List (List ℕ) → Type 0
Printed [] = Unit {0}
Printed (l ∷ ls) = (every is_printed l ≡ true) × Printed ls

pub lines-ended : (ls : List (List ℕ)) → Printed ls → lines (ended ls) ≡ ls
lines-ended [] h = refl
lines-ended (l ∷ ls) h = line_first l (ended ls) h.0 ∙ ap (λ (x : List (List ℕ)). l ∷ x) (lines-ended ls h.1)

line_clean : (l r : List ℕ) (n : ℕ) → every is_printed l ≡ true → foreign_line n (l ++ 10 ∷ r) ≡ foreign_line (n + 1) r
line_clean [] r n e = refl
line_clean (x ∷ xs) r n e =
    let h = every-parts is_printed x xs e in
    let q = printed-range x h.0 in
    let l = q.0 in
    let m : x ≤ 127 = omega (arith, q.1) in
    rw (le-leb x 127 m, ne_eqb x 10 (λ z. omega arith)) (line_clean xs r n h.1)

pub ended-clean : (ls : List (List ℕ)) (n : ℕ) → Printed ls → foreign_line n (ended ls) ≡ 0
ended-clean [] n h = refl
ended-clean (l ∷ ls) n h = line_clean l (ended ls) n h.0 ∙ ended-clean ls (n + 1) h.1
