-- One line's work, from what its parts did to the slices: each answer is taken apart, and the rest computes. Assumes nothing.
use Prim.Native.Nat.{◌≤◌, ℕ}
use lib.ListN.{length, take}
use lib.Seq.{length-take-le}
use mathlib.Core.List.{List}
use mathlib.Core.Path.{◌≡◌, ap}
use Rattle.std.specs.Prelude.{Some, None}
use Rattle.asm.proofs.PatchLaws.{patch-take}
use Rattle.asm.specs.Labels.{Patched, add_open, define, part, patch, patched_of}
use Rattle.asm.specs.Views.{work_of}
use Rattle.asm.specs.Words.{add_instruction, add_word}
use Rattle.asm.specs.Work.{Task, Work, labelled, labels_at, opens, references, says, work}
use Rattle.base.specs.Told.{Told, is, no, ◌>>=◌}
use Rattle.base.specs.Words.{doubled}
use Rattle.labels.specs.Labels.{find, label}
use Rattle.labels.specs.Opens.{open_to}
use Rattle.parser.specs.References.{resolved}
use Rattle.instruction.specs.declared.Instruction.{Instruction}
use Rattle.parser.specs.declared.Reference.{Reference}
use Rattle.labels.specs.declared.Found.{Found}
use Rattle.labels.specs.declared.Label.{Label}
use Rattle.labels.specs.declared.Open.{Open}
use Rattle.asm.specs.declared.Counts.{Counts}

-- one word more, the other two parts of the work as they were
module _ (t : Task) (i : Instruction) (n : Counts) (words : List ℕ) (labels : List Label) (waiting : List Open) where
  pub turn-says : (words' : List ℕ) → is words' ≡ add_instruction t.strict t.word_room i (take n.words.0 words) →
      is (work words' (take n.labels labels) (take n.waiting waiting)) ≡ says t i (work_of n words labels waiting)
  unfolding says
  turn-says words' e = rw (← e)

  pub turn-says-refused : (k : ℕ) → no k ≡ add_instruction t.strict t.word_room i (take n.words.0 words) → no k ≡ says t i (work_of n words labels waiting)
  unfolding says
  turn-says-refused k e = rw (← e)

-- an open reference more
module _ (t : Task) (o : Open) (n : Counts) (words : List ℕ) (labels : List Label) (waiting : List Open) where
  pub turn-opens : (words' : List ℕ) (waiting' : List Open) → is words' ≡ add_word t.word_room 0 (take n.words.0 words) →
      is waiting' ≡ add_open o (take n.waiting waiting) →
      is (work words' (take n.labels labels) waiting') ≡ opens t o (work_of n words labels waiting)
  unfolding opens
  turn-opens words' waiting' e q = rw (← e, ← q)

  pub turn-opens-many : (words' : List ℕ) (k : ℕ) → is words' ≡ add_word t.word_room 0 (take n.words.0 words) →
      no k ≡ add_open o (take n.waiting waiting) → no k ≡ opens t o (work_of n words labels waiting)
  unfolding opens
  turn-opens-many words' k e q = rw (← e, ← q)

  pub turn-opens-full : (k : ℕ) → no k ≡ add_word t.word_room 0 (take n.words.0 words) → no k ≡ opens t o (work_of n words labels waiting)
  unfolding opens
  turn-opens-full k e = rw (← e)

-- a label defined, and the references to it patched
module _ (t : Task) (place size : ℕ) (n : Counts) (words : List ℕ) (labels : List Label) (waiting : List Open) (h : n.words.0 ≤ length words) where
  abbrev the-label : Label
  the-label = label place size (doubled n.words.0)

  counted : labelled t place size (work_of n words labels waiting) ≡ labels_at t the-label (work_of n words labels waiting)
  unfolding labelled
  counted = ap (λ (k : ℕ). labels_at t (label place size (doubled k)) (work_of n words labels waiting)) (length-take-le n.words.0 words h)

  -- the references patched in all the words, and in the first of them
  abbrev whole : Told Patched
  whole = patch t.strict t.text (part t.text place size) (doubled n.words.0) (take n.waiting waiting) words

  cut : patch t.strict t.text (part t.text place size) (doubled n.words.0) (take n.waiting waiting) (take n.words.0 words)
      ≡ ◌>>=◌ whole (λ p. is (patched_of (take n.words.0 p.words) p.waiting))
  cut = patch-take t.strict t.text (part t.text place size) (doubled n.words.0) n.words.0 (take n.waiting waiting) words

  pub turn-label : (labels' : List Label) (words' : List ℕ) (waiting' : List Open) →
      is labels' ≡ define t.text t.label_room the-label (take n.labels labels) → is (patched_of words' waiting') ≡ whole →
      is (work (take n.words.0 words') labels' waiting') ≡ labelled t place size (work_of n words labels waiting)
  turn-label labels' words' waiting' e q = rw (counted, ← e, cut, ← q)

  pub turn-label-stuck : (labels' : List Label) (k : ℕ) →
      is labels' ≡ define t.text t.label_room the-label (take n.labels labels) → no k ≡ whole → no k ≡ labelled t place size (work_of n words labels waiting)
  turn-label-stuck labels' k e q = rw (counted, ← e, cut, ← q)

  pub turn-label-full : (k : ℕ) → no k ≡ define t.text t.label_room the-label (take n.labels labels) → no k ≡ labelled t place size (work_of n words labels waiting)
  turn-label-full k e = rw (counted, ← e)

-- a reference, by what is found of its name
module _ (t : Task) (r : Reference) (place size : ℕ) (w : Work) where
  pub turn-known : (f : Found) → Some f ≡ find t.text (part t.text place size) w.labels → says t (resolved r f.address) w ≡ references t r place size w
  unfolding references
  turn-known f e = rw (← e)

  pub turn-unknown : None ≡ find t.text (part t.text place size) w.labels → opens t (open_to place size (length w.words) r) w ≡ references t r place size w
  unfolding references
  turn-unknown e = rw (← e)
