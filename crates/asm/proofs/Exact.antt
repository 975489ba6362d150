-- Strict assembly accepts exactly what plain assembly accepts and whose instructions all fit and decode back. What it accepts decodes to
-- what the lines say, and so fits. The other way: each line is done as plain assembly does it, since the instruction that it says, or
-- that a reference comes to, is one of those that the text means at the end. Assumes nothing.
use Prim.Native.Nat.{ℕ, suc, ◌+◌, ◌≤◌}
use mathlib.Core.Path.{◌≡◌, refl, sym, ap, subst, ◌∙◌}
use mathlib.Core.Bool.{Bool, true, false}
use mathlib.Core.List.{List, [], ◌∷◌, ◌++◌, map}
use mathlib.Core.Logic.{inl, inr}
use lib.Dec.{eqb}
use lib.ListN.{length, set}
use Rattle.base.specs.Choice.{cond}
use Rattle.base.specs.Told.{Told, is, no, ◌>>=◌}
use Rattle.base.specs.Words.{doubled}
use Rattle.instruction.specs.declared.Instruction.{Instruction}
use Rattle.instruction.specs.Fits.{fits, decodable}
use Rattle.instruction.proofs.DecodedLaws.{decoded-fits, decoded-decodable}
use Rattle.text.specs.Lines.{lines, foreign_line}
use Rattle.parser.specs.declared.Reference.{Reference}
use Rattle.parser.specs.References.{resolved}
use Rattle.labels.specs.declared.Label.{Label}
use Rattle.labels.specs.declared.Open.{Open}
use Rattle.labels.specs.declared.Found.{Found}
use Rattle.std.specs.Prelude.{Option, Some, None}
use Rattle.labels.specs.Labels.{names, find}
use Rattle.labels.specs.Labels as Labels
use Rattle.labels.specs.Opens.{open_to}
use Rattle.asm.specs.Words.{strict_order, strict_word, word_of, add_word, add_instruction}
use Rattle.asm.specs.Labels.{part, define, Patched, keep, patch}
use Rattle.asm.specs.Reading.{Item, read}
use Rattle.asm.specs.Reading as Reading
use Rattle.asm.specs.Work.{Task, task, Work, work, nothing, with_words, says, opens, refers_to, references, labelled, turn}
use Rattle.asm.specs.Assemble.{Outcome, accepted, refused, next_line, assemble_from, assemble, outcome}
use Rattle.asm.specs.Meaning.{Meant, instruction, never, placed, items_from, latest, later, either, refer, meant, meaning, leads_to}
use Rattle.asm.specs.Strict.{Sayable, AllSay, AsPlain, StrictAccepts}
use Rattle.asm.proofs.Items.{refused-not}
use Rattle.asm.proofs.Meanings as Meanings
use Rattle.asm.proofs.Places.{Within, text-within}
use Rattle.asm.proofs.Plain.{strict-plain}
use Rattle.asm.proofs.Slots.{Slot, done, waits, slot_word, open_from, becomes, settle, map-end, map-length, settled-now}
use Rattle.asm.proofs.Sound.{strict-sound}
use Rattle.asm.proofs.Tables.{found-latest}

-- ---- what is accepted strictly

said-sayable : (ms : List Meant) (ws : List ℕ) → AllSay ms ws → Sayable ms
said-sayable [] [] a = tt
said-sayable [] (w ∷ ws) a = absurd a
said-sayable (m ∷ ms) [] a = absurd a
said-sayable (instruction i ∷ ms) (w ∷ ws) a = ((decoded-fits w i a.0, decoded-decodable w i a.0), said-sayable ms ws a.1)
said-sayable (never ∷ ms) (w ∷ ws) a = said-sayable ms ws a.1

-- ---- an instruction that fits and decodes back has one word by both rules

abbrev Fine : Instruction → Type 0
Fine i = (fits i ≡ true) × (decodable i ≡ true)

word_same : (i : Instruction) → Fine i → word_of true i ≡ word_of false i
unfolding word_of strict_word strict_order
word_same i f = rw (f.0, f.1)

abbrev AllFine : List Slot → Type 0
AllFine [] = Unit {0}
AllFine (done i ∷ slots) = Fine i × AllFine slots
AllFine (waits r place size ∷ slots) = AllFine slots

-- what has come to an instruction means it at the end
sayable-tail : (m : Meant) (ms : List Meant) → Sayable (m ∷ ms) → Sayable ms
sayable-tail (instruction i) ms s = s.1
sayable-tail never ms s = s

fine-front : (text : List ℕ) (f : List ℕ → Told ℕ) (slots : List Slot) (ms : List Meant) → Sayable (map (settle text f) slots ++ ms) → AllFine slots
fine-front text f [] ms s = tt
fine-front text f (done i ∷ slots) ms s = (s.0, fine-front text f slots ms s.1)
fine-front text f (waits r place size ∷ slots) ms s =
    fine-front text f slots ms (sayable-tail (refer r (f (part text place size))) (map (settle text f) slots ++ ms) s)

sayable-rest : (xs ms : List Meant) → Sayable (xs ++ ms) → Sayable ms
sayable-rest [] ms s = s
sayable-rest (x ∷ xs) ms s = sayable-rest xs ms (sayable-tail x (xs ++ ms) s)

then_same : {A B : Type 0} (x : Told A) (f g : A → Told B) → ((a : A) → f a ≡ g a) → ◌>>=◌ x f ≡ ◌>>=◌ x g
then_same (is a) f g k = k a
then_same (no n) f g k = refl

patch-same : (text name : List ℕ) (a : ℕ) (slots : List Slot) (i : ℕ) (words : List ℕ) → AllFine (map (becomes text name a) slots) →
    patch true text name a (open_from i slots) words ≡ patch false text name a (open_from i slots) words
unfolding patch
patch-same text name a [] i words s = refl
patch-same text name a (done j ∷ slots) i words s = patch-same text name a slots (suc i) words s.1
patch-same text name a (waits r place size ∷ slots) i words s =
    go (names text place size name) s (λ ws q. patch-same text name a slots (suc i) ws q)
  where
    o : Open
    o = open_to place size i r

    rest : Bool → List ℕ → Told Patched
    rest strict ws = patch strict text name a (open_from (suc i) slots) ws

    after : Bool → ℕ → Told Patched
    after strict w = rest strict (set words i w)

    go : (t : Bool) → AllFine (cond t (done (resolved r a)) (waits r place size) ∷ map (becomes text name a) slots) →
        ((ws : List ℕ) → AllFine (map (becomes text name a) slots) → rest true ws ≡ rest false ws) →
        cond t (◌>>=◌ (word_of true (resolved r a)) (after true)) (◌>>=◌ (rest true words) (λ p. is (keep o p))) ≡
        cond t (◌>>=◌ (word_of false (resolved r a)) (after false)) (◌>>=◌ (rest false words) (λ p. is (keep o p)))
    go true q ih =
        ap (λ (x : Told ℕ). ◌>>=◌ x (after true)) (word_same (resolved r a) q.0) ∙
        then_same (word_of false (resolved r a)) (after true) (after false) (λ w. ih (set words i w) q.1)
    go false q ih = ap (λ (x : Told Patched). ◌>>=◌ x (λ p. is (keep o p))) (ih words q)

module _ (text : List ℕ) (room labels : ℕ) where
  abbrev ruled : Bool → Task
  ruled strict = task strict text room labels

  abbrev Holds : ℕ → List Label → List Slot → Work → Type 0
  Holds = Meanings.Holds (ruled false)

  abbrev rest : ℕ → List Item → Slot → Meant
  rest = Meanings.rest (ruled false)

  -- ---- a line

  says_same : (i : Instruction) (w : Work) → Fine i → says (ruled true) i w ≡ says (ruled false) i w
  unfolding says add_instruction
  says_same i w f =
      ap (λ (x : Told ℕ). ◌>>=◌ (◌>>=◌ x (λ v. add_word room v w.words)) (λ words. is (with_words w words))) (word_same i f)

  references-same : (r : Reference) (place size n : ℕ) (before : List Label) (slots : List Slot) (w : Work) (later : Told ℕ) (ms : List Meant) → Holds n before slots w →
      Sayable (refer r (either (latest text (part text place size) before) later) ∷ ms) →
      references (ruled true) r place size w ≡ references (ruled false) r place size w
  unfolding references opens
  references-same r place size n before slots w later ms h s = go (find text (part text place size) w.labels) known s
    where
      name : List ℕ
      name = part text place size

      known : leads_to w.labels (find text name w.labels) ≡ latest text name before
      known = found-latest text name w.labels ∙ h.labels name

      go : (f : Option Found) → leads_to w.labels f ≡ latest text name before → Sayable (refer r (either (latest text name before) later) ∷ ms) →
          refers_to (ruled true) r place size w f ≡ refers_to (ruled false) r place size w f
      go (Some f) q s = says_same (resolved r f.address) w (subst (λ (x : Told ℕ). Sayable (refer r (either x later) ∷ ms)) (sym q) s).0
      go None q s = refl

  label_same : (place size n : ℕ) (before : List Label) (slots : List Slot) (w : Work) → Holds n before slots w →
      AllFine (map (becomes text (part text place size) (doubled (length w.words))) slots) →
      labelled (ruled true) place size w ≡ labelled (ruled false) place size w
  unfolding labelled
  label_same place size n before slots w h f =
      let l = Labels.label place size (doubled (length w.words)) in
      let name = part text place size in
      let made : List Label → Patched → Told Work = λ ls p. is (work p.words ls p.waiting) in
      let patches : Bool → Told Patched = λ strict. patch strict text name l.address w.waiting w.words in
      let e : patches true ≡ patches false = rw h.waiting (patch-same text name l.address slots 0 w.words f) in
      then_same (define text labels l w.labels) (λ ls. ◌>>=◌ (patches true) (made ls)) (λ ls. ◌>>=◌ (patches false) (made ls))
      (λ ls. ap (λ (x : Told Patched). ◌>>=◌ x (made ls)) e)

  -- ---- all lines

  -- what is accepted went on
  record Went (x : Told Work) (after : Work → Outcome) (v : Work) : Type 0 where
    pub value : Work
    pub first : x ≡ is value
    pub next : after value ≡ accepted v

  went : (line : ℕ) (x : Told Work) (after : Work → Outcome) (v : Work) → next_line line x after ≡ accepted v → Went x after v
  went line (is u) after v e = record { value = u; first = refl; next = e }
  went line (no n) after v e = refused-not n line v e

  -- the lines after one, from whatever state that one leaves
  abbrev Later : List Item → (Bool → Work → Outcome) → Work → Type 0
  Later items after v = (n : ℕ) (before : List Label) (slots : List Slot) (u : Work) → Holds n before slots u → after false u ≡ accepted v →
      Sayable (map (rest n items) slots ++ meant text before n items) → after true u ≡ accepted v

  module _ (at line n : ℕ) (before : List Label) (slots : List Slot) (w v : Work) (items : List Item) (after : Bool → Work → Outcome) (h : Holds n before slots w)
      (k : Later items after v) where
    -- a line that is done alike
    on : (x y : Told Work) (u : Work) → x ≡ y → y ≡ is u → after true u ≡ accepted v → next_line line x (after true) ≡ accepted v
    on x y u p q e = ap (λ (z : Told Work). next_line line z (after true)) (p ∙ q) ∙ e

    label-on : (place size : ℕ) → place + size ≤ length text → next_line line (labelled (ruled false) place size w) (after false) ≡ accepted v →
        Sayable (map (rest n (Reading.label place size ∷ items)) slots ++ meant text (Labels.label place size (doubled n) ∷ before) n items) →
        next_line line (labelled (ruled true) place size w) (after true) ≡ accepted v
    label-on place size i e s =
        let g = went line (labelled (ruled false) place size w) (after false) v e in
        let entry = Labels.label place size (doubled n) in
        let name = part text place size in
        let settled = map (becomes text name (doubled n)) slots in
        let ms = meant text (entry ∷ before) n items in
        let now : Sayable (map (rest n items) settled ++ ms) =
        subst (λ (xs : List Meant). Sayable (xs ++ ms)) (sym (settled-now false text place size n items i slots h.good)) s in
        let fine : AllFine settled = fine-front text (λ name. later text name n items) settled ms now in
        let count : length w.words ≡ n = ap length h.words ∙ map-length slot_word slots ∙ h.count in
        let same = label_same place size n before slots w h (subst (λ (x : ℕ). AllFine (map (becomes text name (doubled x)) slots)) (sym count) fine) in
        on (labelled (ruled true) place size w) (labelled (ruled false) place size w) g.value same g.first
        (k n (entry ∷ before) settled g.value (Meanings.holds-label (ruled false) n before slots w g.value h place size i g.first) g.next now)

    says_on : (i : Instruction) → next_line line (says (ruled false) i w) (after false) ≡ accepted v →
        Sayable (map (rest (n + 1) items) slots ++ instruction i ∷ meant text before (n + 1) items) →
        next_line line (says (ruled true) i w) (after true) ≡ accepted v
    says_on i e s =
        let g = went line (says (ruled false) i w) (after false) v e in
        let ms = meant text before (n + 1) items in
        let same = says_same i w (sayable-rest (map (rest (n + 1) items) slots) (instruction i ∷ ms) s).0 in
        on (says (ruled true) i w) (says (ruled false) i w) g.value same g.first
        (k (n + 1) before (slots ++ done i ∷ []) g.value (Meanings.holds-says (ruled false) n before slots w g.value h i g.first) g.next
        (subst Sayable (sym (map-end (rest (n + 1) items) slots (done i) ms)) s))

    refers-on : (r : Reference) (place size : ℕ) → place + size ≤ length text → next_line line (references (ruled false) r place size w) (after false) ≡ accepted v →
        Sayable (map (rest (n + 1) items) slots ++ meant text before n (Reading.refers r place size ∷ items)) →
        next_line line (references (ruled true) r place size w) (after true) ≡ accepted v
    refers-on r place size i e s =
        let g = went line (references (ruled false) r place size w) (after false) v e in
        let ms = meant text before (n + 1) items in
        let name = part text place size in
        let then = later text name (n + 1) items in
        let q = Meanings.referred (ruled false) n before slots w g.value h r place size i g.first in
        let here = sayable-rest (map (rest (n + 1) items) slots) (refer r (either (latest text name before) then) ∷ ms) s in
        let same = references-same r place size n before slots w then ms h here in
        let means : map (rest (n + 1) items) (slots ++ q.slot ∷ []) ++ ms ≡ map (rest (n + 1) items) slots ++ refer r (either (latest text name before) then) ∷ ms =
        map-end (rest (n + 1) items) slots q.slot ms ∙ ap (λ (m : Meant). map (rest (n + 1) items) slots ++ m ∷ ms) (q.means (λ x. later text x (n + 1) items)) in
        on (references (ruled true) r place size w) (references (ruled false) r place size w) g.value same g.first
        (k (n + 1) before (slots ++ q.slot ∷ []) g.value q.holds g.next (subst Sayable (sym means) s))

    item_on : (item : Told Item) → Within (length text) (placed at item ∷ items) → next_line line (turn (ruled false) at item w) (after false) ≡ accepted v →
        Sayable (map (rest n (placed at item ∷ items)) slots ++ meant text before n (placed at item ∷ items)) →
        next_line line (turn (ruled true) at item w) (after true) ≡ accepted v
    unfolding turn
    item_on (is Reading.skip) i e s = k n before slots w h e s
    item_on (is (Reading.label start size)) i e s = label-on (at + start) size i.0 e s
    item_on (is (Reading.says j)) i e s = says_on j e s
    item_on (is (Reading.refers r start size)) i e s = refers-on r (at + start) size i.0 e s
    item_on (no m) i e s = refused-not m line v e

  lines_same : (ls : List (List ℕ)) (at line n : ℕ) (before : List Label) (slots : List Slot) (w v : Work) → Within (length text) (items_from at ls) → Holds n before slots w →
      assemble_from (ruled false) ls at line w ≡ accepted v → Sayable (map (rest n (items_from at ls)) slots ++ meant text before n (items_from at ls)) →
      assemble_from (ruled true) ls at line w ≡ accepted v
  lines_same [] at line n before slots w v i h e s = e
  lines_same (l ∷ ls) at line n before slots w v i h e s =
      let next = at + length l + 1 in
      item_on at (line + 1) n before slots w v (items_from next ls) (λ strict. assemble_from (ruled strict) ls next (line + 1)) h
      (λ m b t u g f q. lines_same ls next (line + 1) m b t u v i.1 g f q) (read l) i e s

-- ---- a text

accepts : (text : List ℕ) (room labels : ℕ) (w : Work) → outcome false text room labels ≡ accepted w → Sayable (meaning text) → outcome true text room labels ≡ accepted w
unfolding assemble meaning
accepts text room labels w = go (eqb (foreign_line 1 text) 0)
  where
    from : Bool → Outcome
    from strict = assemble_from (task strict text room labels) (lines text) 0 0 nothing

    go : (b : Bool) → cond b (from false) (refused 26 (foreign_line 1 text)) ≡ accepted w → Sayable (meant text [] 0 (items_from 0 (lines text))) →
        cond b (from true) (refused 26 (foreign_line 1 text)) ≡ accepted w
    go true e s =
        lines_same text room labels (lines text) 0 0 0 [] [] nothing w (text-within text) (Meanings.at_first (task false text room labels)) e s
    go false e s = e

pub strict-accepts : StrictAccepts
strict-accepts text room labels w = (
  λ e. (plainly (strict-plain text room labels) e, said-sayable (meaning text) w.words (strict-sound text room labels w e).says),
  accepts text room labels w,
)
  where
    plainly : AsPlain (outcome true text room labels) (outcome false text room labels) → outcome true text room labels ≡ accepted w →
        outcome false text room labels ≡ accepted w
    plainly (inl p) e = sym p ∙ e
    plainly (inr (line, inl p)) e = refused-not 30 line w (sym p ∙ e)
    plainly (inr (line, inr p)) e = refused-not 32 line w (sym p ∙ e)
