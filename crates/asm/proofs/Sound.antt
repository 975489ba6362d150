-- Assembling is sound: an accepted text's words, open references and labels are those of what the text means
-- (specs/Meaning.antt); and in strict assembly each word decodes to the very instruction that its line says (specs/Strict.antt). Each
-- is read off what the lines have come to at the end. Assumes nothing.
use Prim.Native.Nat.{ℕ}
use mathlib.Core.Path.{◌≡◌, refl, sym, ap, subst, ◌∙◌}
use mathlib.Core.Bool.{true}
use mathlib.Core.List.{List, [], ◌∷◌, map, map-map}
use native.Mathlib.Omega.{arith}
use lib.ListN.{length}
use Rattle.base.specs.Told.{is}
use Rattle.instruction.specs.declared.Instruction.{Instruction}
use Rattle.instruction.specs.Decode.{decode}
use Rattle.labels.specs.Labels.{find}
use Rattle.asm.specs.Work.{Task, task, Work}
use Rattle.asm.specs.Assemble.{accepted, assemble}
use Rattle.asm.specs.Meaning.{Meant, instruction, never, latest, meaning, definitions, leads_to, word_of, nevers}
use Rattle.asm.specs.Strict.{AllSay, StrictMeans}
use Rattle.asm.proofs.Tables.{found-latest}
use Rattle.asm.proofs.Slots.{as_meant, open-nevers, slots-say}
use Rattle.asm.proofs.Meanings.{ended}

-- the words are those of what the text means: each label at the address that its line stands for, 0 where it never comes
pub words-meant : (t : Task) (w : Work) → assemble t ≡ accepted w → w.words ≡ map word_of (meaning t.text)
words-meant t w e =
    let r = ended t w e in
    r.holds.words ∙ sym (map-map word_of as_meant r.slots) ∙ ap (map word_of) r.means

-- as many references are open as lines refer to a label that is never defined
pub open-meant : (t : Task) (w : Work) → assemble t ≡ accepted w → length w.waiting ≡ nevers (meaning t.text)
open-meant t w e =
    let r = ended t w e in
    ap length r.holds.waiting ∙ open-nevers 0 r.slots ∙ ap nevers r.means

pub strict-sound : StrictMeans
strict-sound text word_room label_room w e =
    let t = task true text word_room label_room in
    let r = ended t w e in
    let said = slots-say (length text) r.slots r.holds.good in
    record {
      says =
          subst (λ (ms : List Meant). AllSay ms w.words) r.means
          (subst (AllSay (map as_meant r.slots)) (sym r.holds.words) said);
      counts = open-meant t w e;
    }

-- where no reference stayed open, nothing is left: the lines say instructions, and the words decode to them
pub record Decoded (ms : List Meant) (words : List ℕ) : Type 0 where
  pub instructions : List Instruction
  pub meant : ms ≡ map instruction instructions
  pub decodes : map decode words ≡ map is instructions

pub none_open : (ms : List Meant) (words : List ℕ) → AllSay ms words → nevers ms ≡ 0 → Decoded ms words
none_open [] [] a h = record { instructions = []; meant = refl; decodes = refl }
none_open [] (w ∷ words) a h = absurd a
none_open (m ∷ ms) [] a h = absurd a
none_open (instruction i ∷ ms) (w ∷ words) a h =
    let r = none_open ms words a.1 h in
    record {
      instructions = i ∷ r.instructions;
      meant = ap (λ (xs : List Meant). instruction i ∷ xs) r.meant;
      decodes = rw (a.0, r.decodes);
    }
none_open (never ∷ ms) (w ∷ words) a h = absurd (omega (arith, h))

-- the label table leads each name to the latest of its definitions in the text, and a name without one to nothing
pub labels-latest : (t : Task) (w : Work) → assemble t ≡ accepted w → (name : List ℕ) →
    leads_to w.labels (find t.text name w.labels) ≡ latest t.text name (definitions t.text)
labels-latest t w e name = found-latest t.text name w.labels ∙ (ended t w e).holds.labels name
