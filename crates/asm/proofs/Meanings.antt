-- Following the items of a text ends with the words of what the text means. By induction over the items: the work so far is
-- read off a list of slots, what comes later settles the slots that wait, and each item keeps this so. Assumes nothing.
use Prim.Native.Nat.{ℕ, ◌+◌, ◌≤◌}
use mathlib.Core.Path.{◌≡◌, refl, sym, ap, subst, ◌∙◌}
use mathlib.Core.Bool.{Bool, true, false}
use mathlib.Core.List.{List, [], ◌∷◌, ◌++◌, map, append-nil}
use native.Mathlib.Omega.{arith}
use lib.Dec.{eqb}
use lib.ListN.{length, length-append}
use Rattle.base.specs.Choice.{cond}
use Rattle.base.specs.Told.{Told, is}
use Rattle.base.specs.Words.{doubled}
use Rattle.base.proofs.ToldLaws.{is_one}
use Rattle.instruction.specs.declared.Instruction.{Instruction}
use Rattle.text.specs.Lines.{lines, foreign_line}
use Rattle.parser.specs.declared.Reference.{Reference}
use Rattle.parser.specs.References.{resolved}
use Rattle.labels.specs.declared.Label.{Label}
use Rattle.labels.specs.declared.Found.{Found}
use Rattle.std.specs.Prelude.{Option, Some, None}
use Rattle.labels.specs.Labels.{find}
use Rattle.labels.specs.Labels as Labels
use Rattle.labels.specs.Opens.{open_to}
use Rattle.asm.specs.Labels.{part, Patched, patch}
use Rattle.asm.specs.Reading.{Item, skip, label, says, refers}
use Rattle.asm.specs.Work.{Task, Work, nothing, refers_to, references, labels_at, labelled}
use Rattle.asm.specs.Work as Work
use Rattle.asm.specs.Assemble.{accepted, refused, assemble_from, assemble}
use Rattle.asm.specs.Meaning.{Meant, items_from, latest, later, either, refer, meant, meaning, defined, definitions, leads_to}
use Rattle.asm.proofs.Accepted.{both, said, opened, labelling}
use Rattle.asm.proofs.Places.{Within, text-within}
use Rattle.asm.proofs.Items.{follow, followed, refused-not}
use Rattle.asm.proofs.Tables.{found-latest, defined-latest}
use Rattle.asm.proofs.Slots.{Slot, done, waits, as_meant, slot_word, open_from, becomes, settle, AllGood, map-end, map_snoc, map-length, open_done, open-waits, good-end, settled-none, settled-now}
use Rattle.asm.proofs.Patches.{Shows, patched}

module _ (t : Task) where
  -- the work after n instructions, these definitions, newest first, and these slots
  pub record Holds (n : ℕ) (before : List Label) (slots : List Slot) (w : Work) : Type 0 where
    pub count : length slots ≡ n
    pub words : w.words ≡ map slot_word slots
    pub waiting : w.waiting ≡ open_from 0 slots
    pub labels : (name : List ℕ) → latest t.text name w.labels ≡ latest t.text name before
    pub good : AllGood t.strict (length t.text) slots

  -- a work that ends with these definitions and this meaning
  pub record Ends (before : List Label) (ms : List Meant) (w : Work) : Type 0 where
    pub total : ℕ
    pub slots : List Slot
    pub holds : Holds total before slots w
    pub means : map as_meant slots ≡ ms

  means-also : (before : List Label) (ms ns : List Meant) (w : Work) → ms ≡ ns → Ends before ms w → Ends before ns w
  means-also before ms ns w e r = record { total = r.total; slots = r.slots; holds = r.holds; means = r.means ∙ e }

  -- ---- one line

  module _ (n : ℕ) (before : List Label) (slots : List Slot) (w v : Work) (h : Holds n before slots w) where
    one_more : (s : Slot) → length (slots ++ s ∷ []) ≡ n + 1
    one_more s = length-append slots (s ∷ []) ∙ ap (λ (k : ℕ). k + 1) h.count

    pub holds-says : (i : Instruction) → Work.says t i w ≡ is v → Holds (n + 1) before (slots ++ done i ∷ []) v
    holds-says i e =
        let s = said t w v i e in
        record {
          count = one_more (done i);
          words = rw (s.words, h.words, map_snoc slot_word slots (done i));
          waiting = s.waiting ∙ h.waiting ∙ sym (open_done 0 slots i);
          labels = λ name. ap (latest t.text name) s.labels ∙ h.labels name;
          good = good-end t.strict (length t.text) slots (done i) h.good s.rule;
        }

    holds-opens : (r : Reference) (place size : ℕ) → place + size ≤ length t.text → Work.opens t (open_to place size (length w.words) r) w ≡ is v →
        Holds (n + 1) before (slots ++ waits r place size ∷ []) v
    holds-opens r place size l e =
        let s = opened t w v (open_to place size (length w.words) r) e in
        let k : length w.words ≡ 0 + length slots = omega (arith, ap length h.words, map-length slot_word slots) in
        record {
          count = one_more (waits r place size);
          words = rw (s.words, h.words, map_snoc slot_word slots (waits r place size));
          waiting = rw (s.waiting, k, h.waiting, open-waits 0 slots r place size);
          labels = λ name. ap (latest t.text name) s.labels ∙ h.labels name;
          good = good-end t.strict (length t.text) slots (waits r place size) h.good l;
        }

    -- a reference comes to an instruction if the name is defined, else it waits
    pub record Referred (r : Reference) (name : List ℕ) : Type 0 where
      pub slot : Slot
      pub holds : Holds (n + 1) before (slots ++ slot ∷ []) v
      pub means : (f : List ℕ → Told ℕ) → settle t.text f slot ≡ refer r (either (latest t.text name before) (f name))

    pub referred : (r : Reference) (place size : ℕ) → place + size ≤ length t.text → references t r place size w ≡ is v → Referred r (part t.text place size)
    unfolding references
    referred r place size l e = go (find t.text name w.labels) known e
      where
        name : List ℕ
        name = part t.text place size

        known : leads_to w.labels (find t.text name w.labels) ≡ latest t.text name before
        known = found-latest t.text name w.labels ∙ h.labels name

        go : (f : Option Found) → leads_to w.labels f ≡ latest t.text name before → refers_to t r place size w f ≡ is v → Referred r name
        go (Some known-label) q e =
            record {
              slot = done (resolved r known-label.address);
              holds = holds-says (resolved r known-label.address) e;
              means = λ f. ap (λ (x : Told ℕ). refer r (either x (f name))) q;
            }
        go None q e =
            record {
              slot = waits r place size;
              holds = holds-opens r place size l e;
              means = λ f. ap (λ (x : Told ℕ). refer r (either x (f name))) q;
            }

    -- patching, read off the slots
    patch-slots : (name : List ℕ) (a : ℕ) (p : Patched) → patch t.strict t.text name a w.waiting w.words ≡ is p →
        Shows t.strict t.text name a (length t.text) 0 [] (map (becomes t.text name a) slots) p
    patch-slots name a p e = patched t.strict t.text name a (length t.text) slots 0 h.good [] p refl (rw (h.waiting, h.words) at e)

    pub holds-label : (place size : ℕ) → place + size ≤ length t.text → labelled t place size w ≡ is v →
        Holds n (Labels.label place size (doubled n) ∷ before) (map (becomes t.text (part t.text place size) (doubled n)) slots) v
    unfolding labelled
    holds-label place size l e =
        let k : length w.words ≡ n = ap length h.words ∙ map-length slot_word slots ∙ h.count in
        let name : List ℕ = part t.text place size in
        let entry : Label = Labels.label place size (doubled n) in
        let s = labelling t w v entry (subst (λ (x : ℕ). labels_at t (Labels.label place size (doubled x)) w ≡ is v) k e) in
        let p = patch-slots name (doubled n) s.patches s.patching in
        record {
          count = map-length (becomes t.text name (doubled n)) slots ∙ h.count;
          words = s.words ∙ p.words;
          waiting = s.waiting ∙ p.waiting;
          labels = λ other.
              defined-latest t.text t.label_room entry w.labels v.labels l s.defines other ∙
              ap (λ (x : Told ℕ). cond (Labels.is_named t.text other entry) (is (doubled n)) x) (h.labels other);
          good = p.good;
        }

  -- ---- all lines

  -- what slots mean, n instructions having come before these items
  abbrev pub rest : ℕ → List Item → Slot → Meant
  rest n items = settle t.text (λ name. later t.text name n items)

  ends : (items : List Item) (n : ℕ) (before : List Label) (slots : List Slot) (w v : Work) → Within (length t.text) items → Holds n before slots w →
      follow t items w ≡ is v → Ends (defined before n items) (map (rest n items) slots ++ meant t.text before n items) v
  ends [] n before slots w v i h e =
      record {
        total = n;
        slots = slots;
        holds = subst (λ (x : Work). Holds n before slots x) (is_one w v e) h;
        means = settled-none t.text n slots ∙ sym (append-nil (map (rest n []) slots));
      }
  ends (skip ∷ items) n before slots w v i h e = ends items n before slots w v i.1 h e
  ends (label place size ∷ items) n before slots w v i h e =
      let s = both (labelled t place size w) (follow t items) v e in
      let name : List ℕ = part t.text place size in
      let entry : Label = Labels.label place size (doubled n) in
      let settled = map (becomes t.text name (doubled n)) slots in
      means-also (defined (entry ∷ before) n items)
      (map (rest n items) settled ++ meant t.text (entry ∷ before) n items)
      (map (rest n (label place size ∷ items)) slots ++ meant t.text (entry ∷ before) n items) v
      (ap (λ (ms : List Meant). ms ++ meant t.text (entry ∷ before) n items) (settled-now t.strict t.text place size n items i.0 slots h.good))
      (ends items n (entry ∷ before) settled s.value v i.1 (holds-label n before slots w s.value h place size i.0 s.first) s.next)
  ends (says j ∷ items) n before slots w v i h e =
      let s = both (Work.says t j w) (follow t items) v e in
      let ms = meant t.text before (n + 1) items in
      means-also (defined before (n + 1) items)
      (map (rest (n + 1) items) (slots ++ done j ∷ []) ++ ms)
      (map (rest (n + 1) items) slots ++ rest (n + 1) items (done j) ∷ ms) v
      (map-end (rest (n + 1) items) slots (done j) ms)
      (ends items (n + 1) before (slots ++ done j ∷ []) s.value v i.1 (holds-says n before slots w s.value h j s.first) s.next)
  ends (refers r place size ∷ items) n before slots w v i h e =
      let s = both (references t r place size w) (follow t items) v e in
      let ms = meant t.text before (n + 1) items in
      let name : List ℕ = part t.text place size in
      let q = referred n before slots w s.value h r place size i.0 s.first in
      means-also (defined before (n + 1) items)
      (map (rest (n + 1) items) (slots ++ q.slot ∷ []) ++ ms)
      (map (rest (n + 1) items) slots ++ refer r (either (latest t.text name before) (later t.text name (n + 1) items)) ∷ ms) v
      (map-end (rest (n + 1) items) slots q.slot ms ∙
      ap (λ (m : Meant). map (rest (n + 1) items) slots ++ m ∷ ms) (q.means (λ x. later t.text x (n + 1) items)))
      (ends items (n + 1) before (slots ++ q.slot ∷ []) s.value v i.1 q.holds s.next)

  pub at_first : Holds 0 [] [] nothing
  at_first = record { count = refl; words = refl; waiting = refl; labels = λ name. refl; good = tt }

  pub ended : (w : Work) → assemble t ≡ accepted w → Ends (definitions t.text) (meaning t.text) w
  unfolding assemble definitions meaning
  ended w e = go (eqb (foreign_line 1 t.text) 0) e
    where
      go : (b : Bool) → cond b (assemble_from t (lines t.text) 0 0 nothing) (refused 26 (foreign_line 1 t.text)) ≡ accepted w →
          Ends (defined [] 0 (items_from 0 (lines t.text))) (meant t.text [] 0 (items_from 0 (lines t.text))) w
      go true q = ends (items_from 0 (lines t.text)) 0 [] [] nothing w (text-within t.text) at_first (followed t w (lines t.text) 0 0 nothing q)
      go false q = refused-not 26 (foreign_line 1 t.text) w q
