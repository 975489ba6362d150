-- Plain assembly of lines that can be read, with room for their words and labels, is refused with nothing but 28, and with that only if
-- over 512 of them refer to a label: one walk over the lines, in which what the rest of them takes has room left. Assumes nothing.
use Prim.Native.Nat.{ℕ, ◌+◌, ◌≤◌, ◌<◌, min}
use mathlib.Core.Path.{◌≡◌, refl, ◌∙◌}
use mathlib.Core.Bool.{Bool, true, false}
use mathlib.Core.List.{List, [], ◌∷◌, ◌++◌}
use native.Mathlib.Omega.{arith}
use borrow.Author.Tests.{ltb-false, lt-ltb}
use lib.Dec.{ltb}
use lib.ListN.{length, set, length-append, length-set}
use Rattle.base.specs.Choice.{cond}
use Rattle.base.specs.Told.{Told, is, no, ◌>>=◌}
use Rattle.base.specs.Words.{doubled}
use Rattle.instruction.specs.declared.Instruction.{Instruction}
use Rattle.instruction.specs.Encode.{encode}
use Rattle.text.specs.Lines.{lines, foreign_line}
use Rattle.parser.specs.declared.Reference.{Reference}
use Rattle.parser.specs.References.{resolved}
use Rattle.labels.specs.declared.Label.{Label}
use Rattle.labels.specs.declared.Open.{Open}
use Rattle.labels.specs.declared.Found.{Found}
use Rattle.std.specs.Prelude.{Option, Some, None}
use Rattle.labels.specs.Labels.{names, find, label}
use Rattle.labels.specs.Opens.{open_to}
use Rattle.asm.specs.Words.{word_of, add_word, add_instruction}
use Rattle.asm.specs.Labels.{part, entered, define, add_open, Patched, patched_of, keep, patch}
use Rattle.asm.specs.Reading.{Item, read}
use Rattle.asm.specs.Reading as Reading
use Rattle.asm.specs.Work.{Task, task, Work, work, nothing, says, opens, refers_to, references, labelled, turn}
use Rattle.asm.specs.Assemble.{Outcome, accepted, refused, next_line, assemble_from, assemble}

-- ---- what lines take

-- how many words a line takes, how many labels it defines, and how many it refers to
abbrev pub words_of : Told Item → ℕ
words_of (is Reading.skip) = 0
words_of (is (Reading.label start size)) = 0
words_of (is (Reading.says i)) = 1
words_of (is (Reading.refers r start size)) = 1
words_of (no n) = 0

abbrev pub labels_of : Told Item → ℕ
labels_of (is Reading.skip) = 0
labels_of (is (Reading.label start size)) = 1
labels_of (is (Reading.says i)) = 0
labels_of (is (Reading.refers r start size)) = 0
labels_of (no n) = 0

abbrev pub refers_of : Told Item → ℕ
refers_of (is Reading.skip) = 0
refers_of (is (Reading.label start size)) = 0
refers_of (is (Reading.says i)) = 0
refers_of (is (Reading.refers r start size)) = 1
refers_of (no n) = 0

abbrev pub words_in : List (List ℕ) → ℕ
words_in [] = 0
words_in (l ∷ ls) = words_of (read l) + words_in ls

abbrev pub labels_in : List (List ℕ) → ℕ
labels_in [] = 0
labels_in (l ∷ ls) = labels_of (read l) + labels_in ls

abbrev pub refers_in : List (List ℕ) → ℕ
refers_in [] = 0
refers_in (l ∷ ls) = refers_of (read l) + refers_in ls

-- it can be read
abbrev pub Reads : Told Item → Type 0
Reads (is i) = Unit {0}
Reads (no n) = ⊥

abbrev pub AllRead : List (List ℕ) → Type 0
AllRead [] = Unit {0}
AllRead (l ∷ ls) = Reads (read l) × AllRead ls

-- ---- one word or label more, and patching

added : (room x : ℕ) (words : List ℕ) → length words < min room 32767 → add_word room x words ≡ is (words ++ x ∷ [])
unfolding add_word
added room x words h = rw (lt-ltb (length words) room (omega arith), lt-ltb (length words) 32767 (omega arith))

defined : (text : List ℕ) (room : ℕ) (l : Label) (labels : List Label) → length labels < room →
    (new : List Label) × (define text room l labels ≡ is new) × (length new ≤ length labels + 1)
unfolding define
defined text room l labels h = go (find text (part text l.place l.length) labels)
  where
    go : (f : Option Found) → (new : List Label) × (entered room l labels f ≡ is new) × (length new ≤ length labels + 1)
    go (Some f) = (set labels f.index l, refl, omega (arith, length-set labels f.index l))
    go None = (labels ++ l ∷ [], rw (lt-ltb (length labels) room h), omega (arith, length-append labels (l ∷ [])))

-- as many words, and no more references open
abbrev Patches : Told Patched → List Open → List ℕ → Type 0
Patches x waiting words = (p : Patched) × (x ≡ is p) × (length p.words ≡ length words) × (length p.waiting ≤ length waiting)

patched : (text name : List ℕ) (a : ℕ) (waiting : List Open) (words : List ℕ) → Patches (patch false text name a waiting words) waiting words
unfolding patch word_of
patched text name a [] words = (patched_of words [], refl, refl, omega arith)
patched text name a (o ∷ waiting) words =
    go (names text o.place o.length name) (patched text name a waiting now) (patched text name a waiting words)
  where
    now : List ℕ
    now = set words o.word.0 (encode (resolved o.reference a))

    go : (t : Bool) → Patches (patch false text name a waiting now) waiting now → Patches (patch false text name a waiting words) waiting words →
        Patches (cond t (patch false text name a waiting now) (◌>>=◌ (patch false text name a waiting words) (λ p. is (keep o p)))) (o ∷ waiting) words
    go true q p = (q.0, q.1, q.2 ∙ length-set words o.word.0 (encode (resolved o.reference a)), omega (arith, q.3))
    go false q p = (keep o p.0, rw p.1, p.2, omega (arith, p.3))

-- ---- a line, and all lines

-- accepted, or refused with 28 where more than 512 lines refer
abbrev pub Ends : ℕ → Outcome → Type 0
Ends r (accepted w) = Unit {0}
Ends r (refused n line) = (n ≡ 28) × (512 < r)

module _ (text : List ℕ) (word_room label_room total : ℕ) where
  abbrev t : Task
  t = task false text word_room label_room

  -- so many words and labels more have room, and so many references more are no more than all
  abbrev Has : ℕ → ℕ → ℕ → Work → Type 0
  Has m k r w = (length w.words + m ≤ min word_room 32767) × (length w.labels + k ≤ label_room) × (length w.waiting + r ≤ total)

  module _ (m k r : ℕ) where
    -- the next work has room for these, or it is 28
    abbrev Goes : Told Work → Type 0
    Goes (is w) = Has m k r w
    Goes (no n) = (n ≡ 28) × (512 < total)

    says-goes : (i : Instruction) (w : Work) → Has (1 + m) (0 + k) (0 + r) w → Goes (says t i w)
    unfolding says add_instruction word_of
    says-goes i w h =
        rw (added word_room (encode i) w.words (omega (arith, h.0)))
        (omega (arith, h.0, length-append w.words (encode i ∷ [])), omega (arith, h.1), omega (arith, h.2))

    opens-goes : (o : Open) (w : Work) → Has (1 + m) (0 + k) (1 + r) w → Goes (opens t o w)
    unfolding opens add_open
    opens-goes o w h = rw (added word_room 0 w.words (omega (arith, h.0))) (go (ltb (length w.waiting) 512) refl)
      where
        go : (b : Bool) → ltb (length w.waiting) 512 ≡ b →
            Goes (◌>>=◌ (cond b (is (w.waiting ++ o ∷ [])) (no 28)) (λ waiting. is (work (w.words ++ 0 ∷ []) w.labels waiting)))
        go true e =
            (omega (arith, h.0, length-append w.words (0 ∷ [])), omega (arith, h.1), omega (arith, h.2, length-append w.waiting (o ∷ [])))
        go false e = (refl, omega (arith, h.2, ltb-false (length w.waiting) 512 e))

    references-goes : (q : Reference) (place size : ℕ) (w : Work) → Has (1 + m) (0 + k) (1 + r) w → Goes (references t q place size w)
    unfolding references
    references-goes q place size w h = go (find text (part text place size) w.labels)
      where
        go : (f : Option Found) → Goes (refers_to t q place size w f)
        go (Some f) = says-goes (resolved q f.address) w (h.0, h.1, omega (arith, h.2))
        go None = opens-goes (open_to place size (length w.words) q) w h

    label-goes : (place size : ℕ) (w : Work) → Has (0 + m) (1 + k) (0 + r) w → Goes (labelled t place size w)
    unfolding labelled
    label-goes place size w h =
        let a = doubled (length w.words) in
        let d = defined text label_room (label place size a) w.labels (omega (arith, h.1)) in
        let p = patched text (part text place size) a w.waiting w.words in
        rw (d.1, p.1) (omega (arith, h.0, p.2), omega (arith, h.1, d.2), omega (arith, h.2, p.3))

    turn-goes : (at : ℕ) (item : Told Item) (w : Work) → Reads item → Has (words_of item + m) (labels_of item + k) (refers_of item + r) w →
        Goes (turn t at item w)
    unfolding turn
    turn-goes at (is Reading.skip) w g h = (omega (arith, h.0), omega (arith, h.1), omega (arith, h.2))
    turn-goes at (is (Reading.label start size)) w g h = label-goes (at + start) size w h
    turn-goes at (is (Reading.says i)) w g h = says-goes i w h
    turn-goes at (is (Reading.refers q start size)) w g h = references-goes q (at + start) size w h
    turn-goes at (no n) w g h = absurd g

    next-goes : (line : ℕ) (x : Told Work) (next : Work → Outcome) → Goes x → ((w : Work) → Has m k r w → Ends total (next w)) →
        Ends total (next_line line x next)
    next-goes line (is w) next h later = later w h
    next-goes line (no n) next h later = h

  lines_end : (ls : List (List ℕ)) (at line : ℕ) (w : Work) → AllRead ls → Has (words_in ls) (labels_in ls) (refers_in ls) w →
      Ends total (assemble_from t ls at line w)
  lines_end [] at line w g h = tt
  lines_end (l ∷ ls) at line w g h =
      next-goes (words_in ls) (labels_in ls) (refers_in ls) (line + 1) (turn t at (read l) w) (assemble_from t ls (at + length l + 1) (line + 1))
      (turn-goes (words_in ls) (labels_in ls) (refers_in ls) at (read l) w g.0 h) (λ v. lines_end ls (at + length l + 1) (line + 1) v g.1)

pub room : (text : List ℕ) (word_room label_room : ℕ) → foreign_line 1 text ≡ 0 → AllRead (lines text) →
    words_in (lines text) ≤ word_room → words_in (lines text) ≤ 32767 → labels_in (lines text) ≤ label_room →
    Ends (refers_in (lines text)) (assemble (task false text word_room label_room))
unfolding assemble
room text word_room label_room f g a b c =
    rw f (lines_end text word_room label_room (refers_in (lines text)) (lines text) 0 0 nothing g (omega arith, omega arith, omega arith))
