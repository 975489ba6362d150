-- Every name that an item keeps stands within the text: a name ends where its line does at the latest, and the lines follow
-- one another in the text. Assumes nothing.
use Prim.Native.Nat.{ℕ, suc, ◌+◌, ◌≤◌}
use mathlib.Core.Path.{◌≡◌, refl, ap, subst}
use mathlib.Core.Bool.{Bool, true, false}
use mathlib.Core.List.{List, [], ◌∷◌}
use native.Mathlib.Omega.{arith}
use lib.Dec.{eqb, ltb}
use lib.ListN.{length, length-drop}
use Rattle.base.specs.Choice.{cond}
use Rattle.base.specs.Told.{Told, is, no}
use Rattle.text.specs.Parts.{is_blank, run, drop_front, drop_end}
use Rattle.text.specs.Tokens.{tokens, token_at, cons_head}
use Rattle.text.specs.Lines.{lines}
use Rattle.text.proofs.PartLaws.{run-le, end-le}
use Rattle.text.proofs.TokenLaws.{second_fits}
use Rattle.parser.specs.Answers.{Meaning}
use Rattle.parser.specs.Answers as Parse
use Rattle.parser.specs.Parse.{parse}
use Rattle.parser.proofs.ReferLaws.{refers-second}
use Rattle.asm.specs.Reading.{Item, skip, label, says, refers, said, name_in, read_trimmed, read}
use Rattle.asm.specs.Meaning.{placed, items_from}

-- where the name of an item ends, 0 where it has none
abbrev pub name_end : Item → ℕ
name_end skip = 0
name_end (label place size) = place + size
name_end (says i) = 0
name_end (refers r place size) = place + size

abbrev pub told_end : Told Item → ℕ
told_end (is i) = name_end i
told_end (no n) = 0

abbrev pub Within : ℕ → List Item → Type 0
Within n [] = Unit {0}
Within n (i ∷ items) = (name_end i ≤ n) × Within n items

-- ---- a name ends within its line

said-within : (at : ℕ) (line : List ℕ) (m : Told Meaning) → parse (tokens line) ≡ m → told_end (said at line m) ≤ at + length line
said-within at line (is (Parse.says i)) e = omega arith
said-within at line (is (Parse.refers r name)) e =
    let n : length name ≡ length (token_at line 1) = ap length (refers-second (tokens line) r name e) in
    omega (arith, second_fits line)
said-within at line (no n) e = omega arith

trimmed-within : (at : ℕ) (line : List ℕ) → told_end (read_trimmed at line) ≤ at + length line
trimmed-within at [] = omega arith
trimmed-within at (x ∷ xs) = go (eqb x 59) (ltb (length (name_in (x ∷ xs))) (length (x ∷ xs)))
  where
    go : (t u : Bool) →
        told_end (cond t (is skip) (cond u (is (label at (length (name_in (x ∷ xs))))) (said at (x ∷ xs) (parse (tokens (x ∷ xs)))))) ≤ at + length (x ∷ xs)
    go true u = omega arith
    go false true = omega (arith, end-le (λ y. eqb y 58) (x ∷ xs))
    go false false = said-within at (x ∷ xs) (parse (tokens (x ∷ xs))) refl

pub read-within : (line : List ℕ) → told_end (read line) ≤ length line
unfolding read
read-within line =
    let a = trimmed-within (run is_blank line) (drop_end is_blank (drop_front is_blank line)) in
    let b = end-le is_blank (drop_front is_blank line) in
    let c = length-drop (run is_blank line) line in
    omega (arith, run-le is_blank line)

placed-within : (n at size : ℕ) (r : Told Item) → at + size ≤ n → told_end r ≤ size → name_end (placed at r) ≤ n
placed-within n at size (is skip) h e = omega arith
placed-within n at size (is (label start length)) h e = omega arith
placed-within n at size (is (says i)) h e = omega arith
placed-within n at size (is (refers r start length)) h e = omega arith
placed-within n at size (no k) h e = omega arith

-- ---- a line ends within the text

-- the lines, the first of which starts at `at`, end by n
abbrev Fit : ℕ → ℕ → List (List ℕ) → Type 0
Fit n at [] = Unit {0}
Fit n at (l ∷ ls) = (at + length l ≤ n) × Fit n (at + length l + 1) ls

lines_fit : (n at : ℕ) (s : List ℕ) → at + length s ≤ n → Fit n at (lines s)
lines_fit n at [] h = tt
lines_fit n at (x ∷ xs) h = go (eqb x 10) (lines xs) (lines_fit n (at + 1) xs (omega arith))
  where
    go : (t : Bool) (ls : List (List ℕ)) → Fit n (at + 1) ls → Fit n at (cond t ([] ∷ ls) (cons_head x ls))
    go true ls f =
        let e : at + 1 ≡ at + 0 + 1 = omega arith in
        (omega arith, subst (λ (k : ℕ). Fit n k ls) e f)
    go false [] f = (omega arith, tt)
    go false (l ∷ ls) f =
        let e : at + 1 + length l + 1 ≡ at + suc (length l) + 1 = omega arith in
        let g : at + 1 + length l ≤ n = f.0 in
        (omega arith, subst (λ (k : ℕ). Fit n k ls) e f.1)

items-within : (n at : ℕ) (ls : List (List ℕ)) → Fit n at ls → Within n (items_from at ls)
items-within n at [] f = tt
items-within n at (l ∷ ls) f =
    (placed-within n at (length l) (read l) f.0 (read-within l), items-within n (at + length l + 1) ls f.1)

pub text-within : (text : List ℕ) → Within (length text) (items_from 0 (lines text))
text-within text = items-within (length text) 0 (lines text) (lines_fit (length text) 0 text (omega arith))
