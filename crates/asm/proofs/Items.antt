-- Assembling line by line is following the items of the lines: a line that is accepted does what its item says, the places
-- counted from the start of the text. Assumes nothing.
use Prim.Native.Nat.{ℕ, ◌+◌}
use mathlib.Core.Path.{◌≡◌, ap}
use mathlib.Core.List.{List, [], ◌∷◌}
use native.Mathlib.Omega.{arith}
use lib.ListN.{length}
use Rattle.base.specs.Told.{Told, is, no, ◌>>=◌}
use Rattle.asm.specs.Reading.{Item, skip, label, says, refers, read}
use Rattle.asm.specs.Work.{Task, Work, references, labelled, does, turn}
use Rattle.asm.specs.Work as Work
use Rattle.asm.specs.Assemble.{Outcome, accepted, refused, next_line, assemble_from}
use Rattle.asm.specs.Meaning.{placed, items_from}

-- what an item does
abbrev pub acts : Task → Work → Item → Told Work
acts t w skip = is w
acts t w (label place size) = labelled t place size w
acts t w (says i) = Work.says t i w
acts t w (refers r place size) = references t r place size w

abbrev pub follow : Task → List Item → Work → Told Work
follow t [] w = is w
follow t (i ∷ items) w = ◌>>=◌ (acts t w i) (follow t items)

pub accepted-one : (w v : Work) → accepted w ≡ accepted v → w ≡ v
accepted-one w v e = cc

pub refused-not : {A : Type 0} (n line : ℕ) (w : Work) → refused n line ≡ accepted w → A
refused-not n line w e = absurd (let z : ◌≡◌ {A = ℕ} 0 1 = cc in omega arith)

module _ (t : Task) (v : Work) where
  -- what is accepted went on
  next-line-on : (line : ℕ) (x : Told Work) (next : Work → Outcome) (f : Work → Told Work) → ((w : Work) → next w ≡ accepted v → f w ≡ is v) →
      next_line line x next ≡ accepted v → ◌>>=◌ x f ≡ is v
  next-line-on line (is w) next f k e = k w e
  next-line-on line (no n) next f k e = refused-not n line v e

  item_on : (at line : ℕ) (w : Work) (r : Told Item) (next : Work → Outcome) (f : Work → Told Work) → ((u : Work) → next u ≡ accepted v → f u ≡ is v) →
      next_line line (◌>>=◌ r (does t at w)) next ≡ accepted v → ◌>>=◌ (acts t w (placed at r)) f ≡ is v
  item_on at line w (is skip) next f k e = k w e
  item_on at line w (is (label start size)) next f k e = next-line-on line (labelled t (at + start) size w) next f k e
  item_on at line w (is (says i)) next f k e = next-line-on line (Work.says t i w) next f k e
  item_on at line w (is (refers r start size)) next f k e = next-line-on line (references t r (at + start) size w) next f k e
  item_on at line w (no n) next f k e = refused-not n line v e

  pub followed : (ls : List (List ℕ)) (at line : ℕ) (w : Work) → assemble_from t ls at line w ≡ accepted v → follow t (items_from at ls) w ≡ is v
  unfolding turn
  followed [] at line w e = ap is (accepted-one w v e)
  followed (l ∷ ls) at line w e =
      item_on at (line + 1) w (read l) (assemble_from t ls (at + length l + 1) (line + 1)) (follow t (items_from (at + length l + 1) ls))
      (followed ls (at + length l + 1) (line + 1)) e
