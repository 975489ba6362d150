-- What the lent slices hold while a text is assembled: the words, labels and open references so far are their first entries.
use Rattle.std.specs.Prelude.{ℕ, ◌+◌, ◌≤◌, Bool, ◌≡◌, List, Option, Some, None, Result, Ok, Err, ltb, take, set, get_or}
use Rattle.base.specs.Choice.{cond}
use Rattle.base.specs.Numbers.{number_of}
use Rattle.base.specs.Told.{Told, is, no, ◌>>=◌}
use Rattle.base.specs.Words.{doubled}
use Rattle.base.specs.declared.counts.InstructionIndex.{InstructionIndex}
use Rattle.base.specs.declared.refusals.Refusal.{Refusal}
use Rattle.parser.specs.References.{resolved}
use Rattle.labels.specs.declared.Label.{Label}
use Rattle.labels.specs.declared.Open.{Open}
use Rattle.labels.specs.declared.Found.{Found}
use Rattle.labels.specs.Labels.{label, names}
use Rattle.labels.specs.Opens.{no_open}
use Rattle.asm.specs.Words.{word_of}
use Rattle.asm.specs.Labels.{part, Patched, patched_of}
use Rattle.asm.specs.Work.{Work, work}
use Rattle.asm.specs.Assemble.{Outcome, report, reported, words_of, labels_left}
use Rattle.asm.specs.declared.Totals.{Totals}
use Rattle.asm.specs.declared.Fault.{Fault}
use Rattle.asm.specs.declared.Line.{Line}
use Rattle.asm.specs.declared.Counts.{Counts}
use Rattle.asm.specs.declared.Entry.{Entry}

-- the words after an answer, which says the number of the next instruction
abbrev pub added : Result InstructionIndex Refusal → List ℕ → Told (List ℕ)
added (Ok n) words = is (take n.0 words)
added (Err r) words = no (number_of r)

-- where a definition goes, the first `count` entries being used, and how many are used after it
abbrev pub slot_of : Option Found → ℕ → ℕ
slot_of (Some f) count = f.index
slot_of None count = count

abbrev pub used_of : Option Found → ℕ → ℕ → Told ℕ
used_of (Some f) count room = is count
used_of None count room = cond (ltb count room) (is (count + 1)) (no 27)

-- of a line that starts at `at`: the name that it looks up, and the entry that it writes, if it is a label's
abbrev pub name_at : List ℕ → ℕ → Line → List ℕ
name_at text at Line.Skip = part text 0 0
name_at text at (Line.Label start size) = part text (at + start) size
name_at text at (Line.Says i) = part text 0 0
name_at text at (Line.Refers r start size) = part text (at + start) size

abbrev pub entry_at : ℕ → Label → Entry
entry_at slot l = record { slot = slot; label = l }

abbrev pub entry_of : Line → ℕ → Option Found → Counts → Option Entry
entry_of Line.Skip at f n = None
entry_of (Line.Label start size) at f n = Some (entry_at (slot_of f n.labels) (label (at + start) size (doubled n.words.0)))
entry_of (Line.Says i) at f n = None
entry_of (Line.Refers r start size) at f n = None

-- the same of a line that could not be read: no name and no entry
abbrev pub name_read : List ℕ → ℕ → Result Line Refusal → List ℕ
name_read text at (Ok l) = name_at text at l
name_read text at (Err r) = part text 0 0

abbrev pub entry_read : Result Line Refusal → ℕ → Option Found → Counts → Option Entry
entry_read (Ok l) at f n = entry_of l at f n
entry_read (Err r) at f n = None

-- a table with the entry
abbrev pub written : Option Entry → List Label → List Label
written None labels = labels
written (Some e) labels = set labels e.slot e.label

-- the first of some entries, as many as an answer says
abbrev pub told_first : {A : Type 0} → Result ℕ Refusal → List A → Told (List A)
told_first (Ok n) xs = is (take n xs)
told_first (Err r) xs = no (number_of r)

-- the words and the open references after an answer, which says how many are open
abbrev pub patched : Result ℕ Refusal → List ℕ → List Open → Told Patched
patched (Ok n) words waiting = is (patched_of words (take n waiting))
patched (Err r) words waiting = no (number_of r)

-- one open reference patched in place: how many of those up to it are kept, and what the slices hold
pub record Kept : Type 0 where
  pub count : ℕ
  pub words : List ℕ
  pub waiting : List Open

abbrev pub kept_of : ℕ → List ℕ → List Open → Kept
kept_of count words waiting = record { count = count; words = words; waiting = waiting }

abbrev pub stepped : Result ℕ Refusal → List ℕ → List Open → Told Kept
stepped (Ok n) words waiting = is (kept_of n words waiting)
stepped (Err r) words waiting = no (number_of r)

abbrev pub patch_this : Bool → List ℕ → List ℕ → ℕ → Open → ℕ → List ℕ → List Open → Told Kept
patch_this strict text name address o kept words waiting =
    cond (names text o.place o.length name)
    (word_of strict (resolved o.reference address) >>= λ w. is (kept_of kept (set words o.word.0 w) waiting))
    (is (kept_of (kept + 1) words (set waiting kept o)))

unfoldable pub patch_one : Bool → List ℕ → List ℕ → ℕ → ℕ → ℕ → List ℕ → List Open → Told Kept
patch_one strict text name address i kept words waiting = patch_this strict text name address (get_or waiting i no_open) kept words waiting

-- the work so far
abbrev pub work_of : Counts → List ℕ → List Label → List Open → Work
work_of n words labels waiting =
    work (take n.words.0 words) (take n.labels labels) (take n.waiting waiting)

-- and after an answer
abbrev pub turned : Result Counts Refusal → List ℕ → List Label → List Open → Told Work
turned (Ok n) words labels waiting = is (work_of n words labels waiting)
turned (Err r) words labels waiting = no (number_of r)

-- counts that the slices hold
abbrev pub Within : Counts → ℕ → ℕ → Type 0
Within n room label_room = (n.words.0 ≤ room) × (n.words.0 ≤ 32767) × (n.labels ≤ label_room) × (n.waiting ≤ 512)

-- how many words and labels an answer to a whole text leaves
abbrev pub word_count : Result Totals Fault → ℕ
word_count (Ok t) = t.words
word_count (Err f) = 0

abbrev pub label_count : Result Totals Fault → ℕ
label_count (Ok t) = t.labels
label_count (Err f) = 0

-- the answer's counts and the slices' first words and labels are those of an outcome
pub record EndedWith (a : Result Totals Fault) (words : List ℕ) (labels : List Label) (o : Outcome) : Type 0 where
  pub answer : reported a ≡ report o
  pub words-end : take (word_count a) words ≡ words_of o
  pub labels-end : take (label_count a) labels ≡ labels_left o
