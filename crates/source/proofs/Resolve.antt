-- What the lines of a source text mean is the instructions that they were written for: a label line tells the address that it stands at,
-- names of two addresses differ, and each address that a line refers to has its label line, before that line or after it. Assumes nothing.
use Prim.Native.Nat.{ℕ, ◌+◌, ◌%◌, ◌≤◌, ◌<◌}
use mathlib.Core.Path.{◌≡◌, refl, sym, ap, subst, ◌∙◌}
use mathlib.Core.Bool.{Bool, true, false, ◌||◌}
use mathlib.Core.List.{List, [], ◌∷◌, map}
use native.Mathlib.Omega.{arith}
use borrow.Author.Tests.{eqb-true, eq-eqb, ltb-true}
use lib.Dec.{eqb, ltb}
use lib.ListN.{length, drop}
use Rattle.base.specs.Bytes.{same}
use Rattle.base.specs.Choice.{cond}
use Rattle.base.specs.Told.{Told, is}
use Rattle.base.specs.Words.{doubled}
use Rattle.base.proofs.SameLaws.{same_self, same-equal}
use Rattle.base.proofs.Tests.{clash, both}
use Rattle.instruction.specs.declared.Instruction.{Instruction}
use Rattle.instruction.specs.Fits.{fits, sayable}
use Rattle.pen.specs.Numbers.{hex}
use Rattle.pen.proofs.NumberLaws.{hex-one}
use Rattle.parser.specs.declared.Reference.{Reference}
use Rattle.asm.specs.Meaning.{instruction, either}
use Rattle.asm.specs.Named.{Named, label, says, refers, Definition, def, name_line, latest_of, later_of, meant_of}
use Rattle.asm.proofs.Lines.{says-name, refers-joined, label-name}
use Rattle.source.specs.Source.{plain_line, label_name, to, aim_of, inside, reference_name, refer_line, label_line, line_of, aims_at, used_by, lines_of}
use Rattle.source.proofs.Cases.{line-cases, label-cases}
use Rattle.source.proofs.Printed.{line-back}
use Rattle.source.proofs.Refers.{name-plain, refer-joined, refer-plain, refer-parse, aim-resolved}

-- ---- names of lines

plain-named : (i : Instruction) → fits i ≡ true → sayable i ≡ true → name_line (plain_line i) ≡ says i
plain-named i f s = says-name (plain_line i) i (line-back i f s)

refer-named : (r : Reference) (a : ℕ) → name_line (refer_line r a) ≡ refers r (label_name a)
refer-named r a = ap name_line (refer-joined r a) ∙ refers-joined (reference_name r) (label_name a) r (refer-plain r a) (refer-parse r a)

label-named : (a : ℕ) → name_line (label_line a) ≡ label (label_name a)
unfolding label_line label_name
label-named a = label-name 76 (hex a) (name-plain a)

-- a label's name tells its address
name-one : (a b : ℕ) → a < 65536 → b < 65536 → label_name a ≡ label_name b → a ≡ b
unfolding label_name
name-one a b h k e = hex-one a b h k (ap (drop 1) e)

-- so where a label is looked for by name, it is that of the address, or the search goes on
by_name : (P : Told ℕ → Type 0) (k a : ℕ) (next : Told ℕ) → k < 65536 → a < 65536 → P (is a) → ((k ≡ a → ⊥) → P next) →
    P (cond (same (label_name k) (label_name a)) (is k) next)
by_name P k a next h l here further = go (same (label_name k) (label_name a)) refl
  where
    go : (t : Bool) → same (label_name k) (label_name a) ≡ t → P (cond t (is k) next)
    go true e = subst (λ (x : ℕ). P (is x)) (sym (name-one k a h l (same-equal (label_name k) (label_name a) e))) here
    go false e = further (λ q. clash (sym e ∙ ap (λ (x : ℕ). same (label_name x) (label_name a)) q ∙ same_self (label_name a)))

-- ---- all lines

abbrev pub Good : List Instruction → Type 0
Good [] = Unit {0}
Good (i ∷ xs) = (fits i ≡ true) × (sayable i ≡ true) × Good xs

or-true : (t : Bool) → (t || true) ≡ true
or-true true = refl
or-true false = refl

module _ (used : ℕ → Bool) (n : ℕ) (most : n ≤ 32767) where
  -- those from instruction k on
  abbrev named : ℕ → List Instruction → List Named
  named k xs = map name_line (lines_of used n k xs)

  -- an address that has its label line
  abbrev Labelled : ℕ → Type 0
  Labelled a = (a % 2 ≡ 0) × (a < doubled n) × (used a ≡ true)

  labelled : (a : ℕ) → inside n a ≡ true → used a ≡ true → Labelled a
  unfolding inside
  labelled a q u = let t = both (eqb (a % 2) 0) (ltb a (doubled n)) q in (eqb-true (a % 2) 0 t.0, ltb-true a (doubled n) t.1, u)

  past : (name : List ℕ) (k : ℕ) (i : Instruction) (items : List Named) → fits i ≡ true → sayable i ≡ true →
      later_of name k (name_line (line_of n i) ∷ items) ≡ later_of name (k + 1) items
  past name k i items f s =
      line-cases (λ l x. later_of name k (name_line l ∷ items) ≡ later_of name (k + 1) items) n i (rw (plain-named i f s)) (λ r a e q. rw (refer-named r a))

  -- an unused address is not it
  other : (k a : ℕ) → used k ≡ false → used a ≡ true → k ≡ a → ⊥
  other k a e u q = clash (sym e ∙ ap used q ∙ u)

  -- it is found in the lines from there on
  found-later : (k : ℕ) (xs : List Instruction) (a : ℕ) → k + length xs ≡ n → Good xs → Labelled a → doubled k ≤ a →
      later_of (label_name a) k (named k xs) ≡ is a
  found-later k [] a o g h l = absurd (omega (arith, o, h.1, l))
  found-later k (i ∷ xs) a o g h l =
      let items = name_line (line_of n i) ∷ named (k + 1) xs in
      let next : ((doubled k ≡ a → ⊥) → later_of (label_name a) k items ≡ is a) =
      λ d. past (label_name a) k i (named (k + 1) xs) g.0 g.1 ∙ found-later (k + 1) xs a (omega arith) g.2 h (omega (arith, l, h.0, d)) in
      label-cases (λ ls. later_of (label_name a) k (map name_line ls) ≡ is a) used n k i xs
      (λ e. rw (label-named (doubled k)) (by_name (λ x. x ≡ is a) (doubled k) a (later_of (label_name a) k items) (omega (arith, most, o)) (omega (arith, most, h.1)) refl next))
      (λ e. next (other (doubled k) a e h.2))

  -- it is found among the definitions before line k, unless it stands behind that
  abbrev Knows : ℕ → List Definition → Type 0
  Knows k before = (a : ℕ) (rest : Told ℕ) → Labelled a → (doubled k ≤ a → rest ≡ is a) → either (latest_of (label_name a) before) rest ≡ is a

  knows_more : (k : ℕ) (before : List Definition) → k < n → Knows k before → Knows (k + 1) (def (label_name (doubled k)) (doubled k) ∷ before)
  knows_more k before o knows a rest h f =
      by_name (λ x. either x rest ≡ is a) (doubled k) a (latest_of (label_name a) before) (omega (arith, most, o)) (omega (arith, most, h.1)) refl
      (λ d. knows a rest h (λ l. f (omega (arith, l, h.0, d))))

  knows_on : (k : ℕ) (before : List Definition) → used (doubled k) ≡ false → Knows k before → Knows (k + 1) before
  knows_on k before e knows a rest h f = knows a rest h (λ l. let d = other (doubled k) a e h.2 in f (omega (arith, l, h.0, d)))

  line-means : (k : ℕ) (i : Instruction) (xs : List Instruction) (before : List Definition) → k + 1 + length xs ≡ n → Good (i ∷ xs) →
      ((a : ℕ) → used_by (i ∷ xs) a ≡ true → used a ≡ true) → Knows (k + 1) before → meant_of before (k + 1) (named (k + 1) xs) ≡ map instruction xs →
      meant_of before k (name_line (line_of n i) ∷ named (k + 1) xs) ≡ map instruction (i ∷ xs)
  line-means k i xs before o g u knows ih =
      line-cases (λ l x. meant_of before k (name_line l ∷ named (k + 1) xs) ≡ map instruction (i ∷ xs)) n i (rw (plain-named i g.0 g.1, ih))
      (λ r a e q. rw (refer-named r a, leads r a e q, aim-resolved i r a e, ih))
    where
      leads : (r : Reference) (a : ℕ) → aim_of i ≡ to r a → inside n a ≡ true →
          either (latest_of (label_name a) before) (later_of (label_name a) (k + 1) (named (k + 1) xs)) ≡ is a
      leads r a e q =
          let h = labelled a q (u a (rw (e, eq-eqb a a refl))) in
          knows a (later_of (label_name a) (k + 1) (named (k + 1) xs)) h (found-later (k + 1) xs a o g.2 h)

  lines-mean : (k : ℕ) (xs : List Instruction) (before : List Definition) → k + length xs ≡ n → Good xs →
      ((a : ℕ) → used_by xs a ≡ true → used a ≡ true) → Knows k before → meant_of before k (named k xs) ≡ map instruction xs
  lines-mean k [] before o g u knows = refl
  lines-mean k (i ∷ xs) before o g u knows =
      let p : k + 1 + length xs ≡ n = omega arith in
      let v : ((a : ℕ) → used_by xs a ≡ true → used a ≡ true) = λ a e. u a (rw e (or-true (aims_at a (aim_of i)))) in
      let b = def (label_name (doubled k)) (doubled k) ∷ before in
      let more = knows_more k before (omega arith) knows in
      label-cases (λ ls. meant_of before k (map name_line ls) ≡ map instruction (i ∷ xs)) used n k i xs
      (λ e. rw (label-named (doubled k)) (line-means k i xs b p g u more (lines-mean (k + 1) xs b p g.2 v more)))
      (λ e. let on = knows_on k before e knows in line-means k i xs before p g u on (lines-mean (k + 1) xs before p g.2 v on))

-- where each address that is aimed at is used
pub lines-meant : (xs : List Instruction) → length xs ≤ 32767 → Good xs →
    meant_of [] 0 (map name_line (lines_of (used_by xs) (length xs) 0 xs)) ≡ map instruction xs
lines-meant xs most g = lines-mean (used_by xs) (length xs) most 0 xs [] (omega arith) g (λ a e. e) (λ a rest h f. f (omega arith))
