-- What a text means depends on the names in its lines alone: a place stands for the name that is there, and each line stands whole in
-- the text, so the name at a place of the line is the one in the text. Assumes nothing.
use Prim.Native.Nat.{ℕ, suc, ◌+◌, ◌≤◌}
use mathlib.Core.Path.{◌≡◌, refl, sym, ap, subst, ◌∙◌}
use mathlib.Core.Bool.{Bool, true, false}
use mathlib.Core.List.{List, [], ◌∷◌, ◌++◌, map}
use native.Mathlib.Omega.{arith}
use lib.Dec.{eqb}
use lib.ListN.{length, take, drop, length-drop}
use lib.Seq.{drop-drop, take-append-le, drop-append-le}
use Rattle.base.specs.Choice.{cond}
use Rattle.base.specs.Told.{Told, is, no}
use Rattle.base.specs.Words.{doubled}
use Rattle.text.specs.Tokens.{cons_head}
use Rattle.text.specs.Lines.{lines}
use Rattle.labels.specs.declared.Label.{Label}
use Rattle.labels.specs.Labels as Labels
use Rattle.labels.proofs.NameLaws.{names-within}
use Rattle.asm.specs.Labels.{part}
use Rattle.asm.specs.Meaning.{Meant, instruction, placed, items_from, latest, later, meant, meaning}
use Rattle.asm.specs.Named.{label, refers, name_item, name_label, name_told, name_line, latest_of, later_of, meant_of}
use Rattle.asm.specs.Reading.{Item, read}
use Rattle.asm.specs.Reading as Reading
use Rattle.asm.proofs.Places.{told_end, Within, read-within, text-within}

-- ---- names for places

module _ (text : List ℕ) where
  -- labels whose names stand within the text
  abbrev Known : List Label → Type 0
  Known [] = Unit {0}
  Known (l ∷ ls) = (l.place + l.length ≤ length text) × Known ls

  latest-named : (name : List ℕ) (ls : List Label) → Known ls → latest text name ls ≡ latest_of name (map (name_label text) ls)
  latest-named name [] k = refl
  latest-named name (l ∷ ls) k = rw (names-within text name l.place l.length k.0, latest-named name ls k.1)

  later-named : (name : List ℕ) (n : ℕ) (items : List Item) → Within (length text) items →
      later text name n items ≡ later_of name n (map (name_item text) items)
  later-named name n [] k = refl
  later-named name n (Reading.skip ∷ items) k = later-named name n items k.1
  later-named name n (Reading.label place size ∷ items) k = rw (names-within text name place size k.0, later-named name n items k.1)
  later-named name n (Reading.says i ∷ items) k = later-named name (n + 1) items k.1
  later-named name n (Reading.refers r place size ∷ items) k = later-named name (n + 1) items k.1

  meant-named : (before : List Label) (n : ℕ) (items : List Item) → Known before → Within (length text) items →
      meant text before n items ≡ meant_of (map (name_label text) before) n (map (name_item text) items)
  meant-named before n [] b k = refl
  meant-named before n (Reading.skip ∷ items) b k = meant-named before n items b k.1
  meant-named before n (Reading.label place size ∷ items) b k =
      meant-named (Labels.label place size (doubled n) ∷ before) n items (k.0, b) k.1
  meant-named before n (Reading.says i ∷ items) b k = ap (λ (ms : List Meant). instruction i ∷ ms) (meant-named before (n + 1) items b k.1)
  meant-named before n (Reading.refers r place size ∷ items) b k =
      let name = part text place size in
      rw (latest-named name before b, later-named name (n + 1) items k.1, meant-named before (n + 1) items b k.1)

  -- ---- each line stands in the text

  abbrev Stands : ℕ → List ℕ → Type 0
  Stands at l = (rest : List ℕ) × (drop at text ≡ l ++ rest)

  abbrev Stand : ℕ → List (List ℕ) → Type 0
  Stand at [] = Unit {0}
  Stand at (l ∷ ls) = Stands at l × Stand (at + length l + 1) ls

  lines-stand : (at : ℕ) (s : List ℕ) → drop at text ≡ s → Stand at (lines s)
  lines-stand at [] h = tt
  lines-stand at (x ∷ xs) h = go (eqb x 10) (lines xs) (lines-stand (at + 1) xs next)
    where
      next : drop (at + 1) text ≡ xs
      next = sym (drop-drop 1 at text) ∙ ap (drop 1) h

      go : (t : Bool) (ls : List (List ℕ)) → Stand (at + 1) ls → Stand at (cond t ([] ∷ ls) (cons_head x ls))
      go true ls f =
          let e : at + 1 ≡ at + 0 + 1 = omega arith in
          ((x ∷ xs, h), subst (λ (k : ℕ). Stand k ls) e f)
      go false [] f = ((xs, h), tt)
      go false (l ∷ ls) f =
          let e : at + 1 + length l + 1 ≡ at + suc (length l) + 1 = omega arith in
          let g : xs ≡ l ++ f.0.0 = sym next ∙ f.0.1 in
          ((f.0.0, h ∙ ap (λ (r : List ℕ). x ∷ r) g), subst (λ (k : ℕ). Stand k ls) e f.1)

  part-line : (at : ℕ) (l : List ℕ) (start size : ℕ) → Stands at l → start + size ≤ length l → part text (at + start) size ≡ part l start size
  part-line at l start size s h =
      let e : drop (at + start) text ≡ drop start l ++ s.0 =
      sym (drop-drop start at text) ∙ ap (drop start) s.1 ∙ drop-append-le start l s.0 (omega arith) in
      ap (take size) e ∙ take-append-le size (drop start l) s.0 (omega (arith, length-drop start l))

  line-named : (at : ℕ) (l : List ℕ) (r : Told Item) → Stands at l → told_end r ≤ length l → name_item text (placed at r) ≡ name_told l r
  line-named at l (is Reading.skip) s h = refl
  line-named at l (is (Reading.label start size)) s h = ap label (part-line at l start size s h)
  line-named at l (is (Reading.says i)) s h = refl
  line-named at l (is (Reading.refers r start size)) s h = ap (refers r) (part-line at l start size s h)
  line-named at l (no n) s h = refl

  items-named : (at : ℕ) (ls : List (List ℕ)) → Stand at ls → map (name_item text) (items_from at ls) ≡ map name_line ls
  items-named at [] k = refl
  items-named at (l ∷ ls) k = rw (line-named at l (read l) k.0 (read-within l), items-named (at + length l + 1) ls k.1)

-- the two are one
pub meaning-named : (text : List ℕ) → meaning text ≡ meant_of [] 0 (map name_line (lines text))
unfolding meaning
meaning-named text =
    meant-named text [] 0 (items_from 0 (lines text)) tt (text-within text) ∙
    ap (meant_of [] 0) (items-named text 0 (lines text) (lines-stand text 0 text refl))
