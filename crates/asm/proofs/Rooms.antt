-- How much an assembled text takes: room over 32,767 words is as good as 32,767, since only a word's test looks at it; and
-- what is accepted is within its rooms, since each step keeps it so, and so do all lines in turn. Assumes nothing.
use Prim.Native.Nat.{ℕ, ◌+◌, ◌≤◌, min}
use mathlib.Core.Path.{◌≡◌, refl, sym, ap, subst, ◌∙◌}
use mathlib.Core.Bool.{Bool, true, false, ◌&&◌}
use mathlib.Core.List.{List, [], ◌∷◌, ◌++◌}
use native.Mathlib.Omega.{arith}
use lib.Dec.{eqb, ltb}
use lib.ListN.{length, set, length-append, length-set}
use borrow.Author.Tests.{ltb-true, ltb-false, lt-ltb, le-ltb}
use Rattle.base.proofs.Tests.{both}
use Rattle.base.specs.Choice.{cond}
use Rattle.base.specs.Told.{Told, is, no, ◌>>=◌}
use Rattle.base.specs.Words.{doubled}
use Rattle.instruction.specs.declared.Instruction.{Instruction}
use Rattle.text.specs.Lines.{lines, foreign_line}
use Rattle.parser.specs.declared.Reference.{Reference}
use Rattle.parser.specs.References.{resolved}
use Rattle.labels.specs.declared.Label.{Label}
use Rattle.labels.specs.declared.Open.{Open}
use Rattle.labels.specs.declared.Found.{Found}
use Rattle.std.specs.Prelude.{Option, Some, None}
use Rattle.labels.specs.Labels.{names, find}
use Rattle.labels.specs.Labels as Labels
use Rattle.labels.specs.Opens.{open_to}
use Rattle.asm.specs.Words.{word_of, add_word, add_instruction}
use Rattle.asm.specs.Labels.{part, entered, define, add_open, Patched, keep, patch}
use Rattle.asm.specs.Reading.{Item, read}
use Rattle.asm.specs.Reading as Reading
use Rattle.asm.specs.Work.{Task, task, Work, work, nothing, with_words, says, opens, refers_to, references, labels_at, labelled, turn}
use Rattle.asm.specs.Assemble.{Outcome, accepted, refused, next_line, assemble_from, assemble, outcome, counts, report}

-- ---- room over 32,767 words

test-room : (n room : ℕ) → (ltb n room && ltb n 32767) ≡ (ltb n (min room 32767) && ltb n 32767)
test-room n room = go (ltb n room) (ltb n 32767) refl refl
  where
    go : (a b : Bool) → ltb n room ≡ a → ltb n 32767 ≡ b → (a && b) ≡ (ltb n (min room 32767) && b)
    go true true p q = ap (λ (c : Bool). c && true) (sym (lt-ltb n (min room 32767) (omega (arith, ltb-true n room p, ltb-true n 32767 q))))
    go true false p q = ap (λ (c : Bool). c && false) (sym (le-ltb n (min room 32767) (omega (arith, ltb-false n 32767 q))))
    go false b p q = ap (λ (c : Bool). c && b) (sym (le-ltb n (min room 32767) (omega (arith, ltb-false n room p))))

word-room : (room x : ℕ) (words : List ℕ) → add_word room x words ≡ add_word (min room 32767) x words
unfolding add_word
word-room room x words = ap (λ (b : Bool). cond b (is (words ++ x ∷ [])) (no 29)) (test-room (length words) room)

instruction-room : (strict : Bool) (room : ℕ) (i : Instruction) (words : List ℕ) →
    add_instruction strict room i words ≡ add_instruction strict (min room 32767) i words
unfolding add_instruction
instruction-room strict room i words = go (word_of strict i)
  where
    go : (x : Told ℕ) → ◌>>=◌ x (λ w. add_word room w words) ≡ ◌>>=◌ x (λ w. add_word (min room 32767) w words)
    go (is w) = word-room room w words
    go (no n) = refl

next-line-same : (line : ℕ) (x y : Told Work) (f g : Work → Outcome) → x ≡ y → ((w : Work) → f w ≡ g w) → next_line line x f ≡ next_line line y g
next-line-same line x y f g e k = ap (λ (z : Told Work). next_line line z f) e ∙ go y
  where
    go : (z : Told Work) → next_line line z f ≡ next_line line z g
    go (is w) = k w
    go (no n) = refl

module _ (strict : Bool) (text : List ℕ) (room labels : ℕ) where
  abbrev given : Task
  given = task strict text room labels

  abbrev least : Task
  least = task strict text (min room 32767) labels

  says-room : (i : Instruction) (w : Work) → says given i w ≡ says least i w
  unfolding says
  says-room i w = ap (λ (x : Told (List ℕ)). ◌>>=◌ x (λ words. is (with_words w words))) (instruction-room strict room i w.words)

  opens-room : (o : Open) (w : Work) → opens given o w ≡ opens least o w
  unfolding opens
  opens-room o w =
      ap (λ (x : Told (List ℕ)). ◌>>=◌ x (λ words. ◌>>=◌ (add_open o w.waiting) (λ waiting. is (work words w.labels waiting))))
      (word-room room 0 w.words)

  references-room : (r : Reference) (place size : ℕ) (w : Work) → references given r place size w ≡ references least r place size w
  unfolding references
  references-room r place size w = go (find text (part text place size) w.labels)
    where
      go : (f : Option Found) → refers_to given r place size w f ≡ refers_to least r place size w f
      go (Some f) = says-room (resolved r f.address) w
      go None = opens-room (open_to place size (length w.words) r) w

  labelled-room : (place size : ℕ) (w : Work) → labelled given place size w ≡ labelled least place size w
  unfolding labelled
  labelled-room place size w = refl

  turn-room : (at : ℕ) (item : Told Item) (w : Work) → turn given at item w ≡ turn least at item w
  unfolding turn
  turn-room at (is Reading.skip) w = refl
  turn-room at (is (Reading.label start size)) w = labelled-room (at + start) size w
  turn-room at (is (Reading.says i)) w = says-room i w
  turn-room at (is (Reading.refers r start size)) w = references-room r (at + start) size w
  turn-room at (no n) w = refl

  lines-room : (ls : List (List ℕ)) (at line : ℕ) (w : Work) → assemble_from given ls at line w ≡ assemble_from least ls at line w
  lines-room [] at line w = refl
  lines-room (l ∷ ls) at line w =
      next-line-same (line + 1) (turn given at (read l) w) (turn least at (read l) w)
      (assemble_from given ls (at + length l + 1) (line + 1)) (assemble_from least ls (at + length l + 1) (line + 1))
      (turn-room at (read l) w) (lines-room ls (at + length l + 1) (line + 1))

  pub outcome-room : outcome strict text room labels ≡ outcome strict text (min room 32767) labels
  unfolding assemble
  outcome-room = ap (λ (o : Outcome). cond (eqb (foreign_line 1 text) 0) o (refused 26 (foreign_line 1 text))) (lines-room (lines text) 0 0 nothing)

-- ---- what a step that is not refused has come to

module _ {A : Type 0} (P : A → Type 0) where
  -- the value, if there is one, is such
  abbrev Each : Told A → Type 0
  Each (is a) = P a
  Each (no n) = Unit {0}

  each_chosen : (b : Bool) (a : A) (n : ℕ) → (b ≡ true → P a) → Each (cond b (is a) (no n))
  each_chosen true a n k = k refl
  each_chosen false a n k = tt

  each-any : {B : Type 0} (x : Told B) (f : B → Told A) → ((b : B) → Each (f b)) → Each (◌>>=◌ x f)
  each-any (is b) f k = k b
  each-any (no n) f k = tt

each-then : {A B : Type 0} (P : A → Type 0) (Q : B → Type 0) (x : Told A) (f : A → Told B) → Each P x →
    ((a : A) → P a → Each Q (f a)) → Each Q (◌>>=◌ x f)
each-then P Q (is a) f p k = k a p
each-then P Q (no n) f p k = tt

-- ---- one word, reference or label more, and patching

word-most : (room x : ℕ) (words : List ℕ) → Each (λ (new : List ℕ). length new ≤ min room 32767) (add_word room x words)
unfolding add_word
word-most room x words =
    each_chosen (λ (new : List ℕ). length new ≤ min room 32767) (ltb (length words) room && ltb (length words) 32767) (words ++ x ∷ []) 29
    (λ e. let t = both (ltb (length words) room) (ltb (length words) 32767) e in
    omega (arith, ltb-true (length words) room t.0, ltb-true (length words) 32767 t.1, length-append words (x ∷ [])))

instruction-most : (strict : Bool) (room : ℕ) (i : Instruction) (words : List ℕ) →
    Each (λ (new : List ℕ). length new ≤ min room 32767) (add_instruction strict room i words)
unfolding add_instruction
instruction-most strict room i words =
    each-any (λ (new : List ℕ). length new ≤ min room 32767) (word_of strict i) (λ w. add_word room w words) (λ w. word-most room w words)

open-most : (o : Open) (waiting : List Open) → Each (λ (new : List Open). length new ≤ 512) (add_open o waiting)
unfolding add_open
open-most o waiting =
    each_chosen (λ (new : List Open). length new ≤ 512) (ltb (length waiting) 512) (waiting ++ o ∷ []) 28
    (λ e. omega (arith, ltb-true (length waiting) 512 e, length-append waiting (o ∷ [])))

define-most : (text : List ℕ) (room : ℕ) (l : Label) (labels : List Label) → length labels ≤ room →
    Each (λ (new : List Label). length new ≤ room) (define text room l labels)
unfolding define
define-most text room l labels h = go (find text (part text l.place l.length) labels)
  where
    go : (f : Option Found) → Each (λ (new : List Label). length new ≤ room) (entered room l labels f)
    go (Some f) = omega (arith, h, length-set labels f.index l)
    go None =
        each_chosen (λ (new : List Label). length new ≤ room) (ltb (length labels) room) (labels ++ l ∷ []) 27
        (λ e. omega (arith, ltb-true (length labels) room e, length-append labels (l ∷ [])))

-- as many words, and no more references open
abbrev Less : List Open → List ℕ → Patched → Type 0
Less waiting words p = (length p.words ≡ length words) × (length p.waiting ≤ length waiting)

patch-most : (strict : Bool) (text name : List ℕ) (a : ℕ) (waiting : List Open) (words : List ℕ) →
    Each (Less waiting words) (patch strict text name a waiting words)
unfolding patch
patch-most strict text name a [] words = (refl, omega arith)
patch-most strict text name a (o ∷ waiting) words =
    go (names text o.place o.length name) (λ w. patch-most strict text name a waiting (set words o.word.0 w))
    (patch-most strict text name a waiting words)
  where
    weaker : (words' : List ℕ) → length words' ≡ length words → (x : Told Patched) →
        Each (Less waiting words') x → Each (Less (o ∷ waiting) words) x
    weaker words' e (is p) h = (h.0 ∙ e, omega (arith, h.1))
    weaker words' e (no n) h = tt

    go : (t : Bool) → ((w : ℕ) → Each (Less waiting (set words o.word.0 w)) (patch strict text name a waiting (set words o.word.0 w))) →
        Each (Less waiting words) (patch strict text name a waiting words) →
        Each (Less (o ∷ waiting) words) (cond t
        (◌>>=◌ (word_of strict (resolved o.reference a)) (λ w. patch strict text name a waiting (set words o.word.0 w)))
        (◌>>=◌ (patch strict text name a waiting words) (λ p. is (keep o p))))
    go true ih1 ih2 =
        each-any (Less (o ∷ waiting) words) (word_of strict (resolved o.reference a)) (λ w. patch strict text name a waiting (set words o.word.0 w))
        (λ w. weaker (set words o.word.0 w) (length-set words o.word.0 w) (patch strict text name a waiting (set words o.word.0 w)) (ih1 w))
    go false ih1 ih2 =
        each-then (Less waiting words) (Less (o ∷ waiting) words) (patch strict text name a waiting words) (λ p. is (keep o p)) ih2
        (λ p h. (h.0, omega (arith, h.1)))

-- ---- a line, and all lines

module _ (t : Task) where
  -- within the rooms
  abbrev Within : Work → Type 0
  Within w = (length w.words ≤ min t.word_room 32767) × (length w.labels ≤ t.label_room) × (length w.waiting ≤ 512)

  says-within : (i : Instruction) (w : Work) → Within w → Each Within (says t i w)
  unfolding says
  says-within i w h =
      each-then (λ (new : List ℕ). length new ≤ min t.word_room 32767) Within (add_instruction t.strict t.word_room i w.words)
      (λ words. is (with_words w words)) (instruction-most t.strict t.word_room i w.words) (λ words k. (k, h.1, h.2))

  opens-within : (o : Open) (w : Work) → Within w → Each Within (opens t o w)
  unfolding opens
  opens-within o w h =
      each-then (λ (new : List ℕ). length new ≤ min t.word_room 32767) Within (add_word t.word_room 0 w.words)
      (λ words. ◌>>=◌ (add_open o w.waiting) (λ waiting. is (work words w.labels waiting))) (word-most t.word_room 0 w.words)
      (λ words k. each-then (λ (new : List Open). length new ≤ 512) Within (add_open o w.waiting) (λ waiting. is (work words w.labels waiting))
      (open-most o w.waiting) (λ waiting q. (k, h.1, q)))

  references-within : (r : Reference) (place size : ℕ) (w : Work) → Within w → Each Within (references t r place size w)
  unfolding references
  references-within r place size w h = go (find t.text (part t.text place size) w.labels)
    where
      go : (f : Option Found) → Each Within (refers_to t r place size w f)
      go (Some f) = says-within (resolved r f.address) w h
      go None = opens-within (open_to place size (length w.words) r) w h

  label-within : (l : Label) (w : Work) → Within w → Each Within (labels_at t l w)
  label-within l w h =
      let name : List ℕ = part t.text l.place l.length in
      let after : Told Patched = patch t.strict t.text name l.address w.waiting w.words in
      each-then (λ (new : List Label). length new ≤ t.label_room) Within (define t.text t.label_room l w.labels)
      (λ labels. ◌>>=◌ after (λ p. is (work p.words labels p.waiting))) (define-most t.text t.label_room l w.labels h.1)
      (λ labels k. each-then (Less w.waiting w.words) Within after (λ p. is (work p.words labels p.waiting))
      (patch-most t.strict t.text name l.address w.waiting w.words)
      (λ p q. (omega (arith, h.0, q.0), k, omega (arith, h.2, q.1))))

  labelled-within : (place size : ℕ) (w : Work) → Within w → Each Within (labelled t place size w)
  unfolding labelled
  labelled-within place size w h = label-within (Labels.label place size (doubled (length w.words))) w h

  turn-within : (at : ℕ) (item : Told Item) (w : Work) → Within w → Each Within (turn t at item w)
  unfolding turn
  turn-within at (is Reading.skip) w h = h
  turn-within at (is (Reading.label start size)) w h = labelled-within (at + start) size w h
  turn-within at (is (Reading.says i)) w h = says-within i w h
  turn-within at (is (Reading.refers r start size)) w h = references-within r (at + start) size w h
  turn-within at (no n) w h = tt

  -- the work, if it is accepted, is within
  abbrev Ends : Outcome → Type 0
  Ends (accepted w) = Within w
  Ends (refused n line) = Unit {0}

  next-line-within : (line : ℕ) (x : Told Work) (next : Work → Outcome) → Each Within x → ((w : Work) → Within w → Ends (next w)) →
      Ends (next_line line x next)
  next-line-within line (is w) next h k = k w h
  next-line-within line (no n) next h k = tt

  lines-within : (ls : List (List ℕ)) (at line : ℕ) (w : Work) → Within w → Ends (assemble_from t ls at line w)
  lines-within [] at line w h = h
  lines-within (l ∷ ls) at line w h =
      next-line-within (line + 1) (turn t at (read l) w) (assemble_from t ls (at + length l + 1) (line + 1)) (turn-within at (read l) w h)
      (lines-within ls (at + length l + 1) (line + 1))

  assemble-within : Ends (assemble t)
  unfolding assemble
  assemble-within = go (eqb (foreign_line 1 t.text) 0) (lines-within (lines t.text) 0 0 nothing (omega arith, omega arith, omega arith))
    where
      go : (b : Bool) → Ends (assemble_from t (lines t.text) 0 0 nothing) →
          Ends (cond b (assemble_from t (lines t.text) 0 0 nothing) (refused 26 (foreign_line 1 t.text)))
      go true h = h
      go false h = tt

-- ---- what is accepted

module _ (strict : Bool) (text : List ℕ) (room labels : ℕ) where
  within : (w : Work) → outcome strict text room labels ≡ accepted w → Within (task strict text room labels) w
  within w e = subst (Ends (task strict text room labels)) e (assemble-within (task strict text room labels))

  pub words-most : (w : Work) → outcome strict text room labels ≡ accepted w → length w.words ≤ min room 32767
  words-most w e = (within w e).0

  pub labels-most : (w : Work) → outcome strict text room labels ≡ accepted w → length w.labels ≤ labels
  labels-most w e = (within w e).1

  pub waiting-most : (w : Work) → outcome strict text room labels ≡ accepted w → length w.waiting ≤ 512
  waiting-most w e = (within w e).2

  pub report-most : (words ls waiting : ℕ) → report (outcome strict text room labels) ≡ counts words ls waiting →
      (words ≤ 32767) × (ls ≤ labels) × (waiting ≤ 512)
  report-most words ls waiting e = go (outcome strict text room labels) (assemble-within (task strict text room labels)) e
    where
      go : (o : Outcome) → Ends (task strict text room labels) o → report o ≡ counts words ls waiting →
          (words ≤ 32767) × (ls ≤ labels) × (waiting ≤ 512)
      go (accepted w) h q =
          let a : length w.words ≡ words = cc in
          let b : length w.labels ≡ ls = cc in
          let c : length w.waiting ≡ waiting = cc in
          (omega (arith, h.0, a), omega (arith, h.1, b), omega (arith, h.2, c))
      go (refused n line) h q = absurd (let z : ◌≡◌ {A = ℕ} 0 1 = cc in omega arith)
