-- What a line does to the words, labels and open references so far.
use Rattle.std.specs.Prelude.{ℕ, ◌+◌, List, [], Bool, Option, Some, None, length}
use Rattle.base.specs.Told.{Told, is, ◌>>=◌}
use Rattle.base.specs.Words.{doubled}
use Rattle.instruction.specs.declared.Instruction.{Instruction}
use Rattle.parser.specs.declared.Reference.{Reference}
use Rattle.parser.specs.References.{resolved}
use Rattle.labels.specs.declared.Label.{Label}
use Rattle.labels.specs.declared.Open.{Open}
use Rattle.labels.specs.declared.Found.{Found}
use Rattle.labels.specs.Labels.{find, label}
use Rattle.labels.specs.Opens.{open_to}
use Rattle.asm.specs.Reading.{Item}
use Rattle.asm.specs.Reading as Reading
use Rattle.asm.specs.Words.{add_word, add_instruction}
use Rattle.asm.specs.Labels.{part, define, add_open, patch}

-- what stays the same from line to line: the rule, the text, the room for words and for labels
pub record Task : Type 0 where
  pub strict : Bool
  pub text : List ℕ
  pub word_room : ℕ
  pub label_room : ℕ

abbrev pub task : Bool → List ℕ → ℕ → ℕ → Task
task strict text word_room label_room = record { strict = strict; text = text; word_room = word_room; label_room = label_room }

pub record Work : Type 0 where
  pub words : List ℕ
  pub labels : List Label
  pub waiting : List Open

abbrev pub work : List ℕ → List Label → List Open → Work
work words labels waiting = record { words = words; labels = labels; waiting = waiting }

abbrev pub nothing : Work
nothing = work [] [] []

abbrev pub with_words : Work → List ℕ → Work
with_words w words = work words w.labels w.waiting

unfoldable pub says : Task → Instruction → Work → Told Work
says t i w = add_instruction t.strict t.word_room i w.words >>= λ words. is (with_words w words)

-- 29, then 28; the word is 0 until it is patched
unfoldable pub opens : Task → Open → Work → Told Work
opens t o w = do
  words ← add_word t.word_room 0 w.words
  waiting ← add_open o w.waiting
  is (work words w.labels waiting)

-- a label that is known gives its address; for another the reference stays open
abbrev pub refers_to : Task → Reference → ℕ → ℕ → Work → Option Found → Told Work
refers_to t r place size w (Some f) = says t (resolved r f.address) w
refers_to t r place size w None = opens t (open_to place size (length w.words) r) w

unfoldable pub references : Task → Reference → ℕ → ℕ → Work → Told Work
references t r place size w = refers_to t r place size w (find t.text (part t.text place size) w.labels)

-- 27, then 30; the label has the address of the word that comes next
abbrev pub labels_at : Task → Label → Work → Told Work
labels_at t l w = do
  labels ← define t.text t.label_room l w.labels
  p ← patch t.strict t.text (part t.text l.place l.length) l.address w.waiting w.words
  is (work p.words labels p.waiting)

unfoldable pub labelled : Task → ℕ → ℕ → Work → Told Work
labelled t place size w = labels_at t (label place size (doubled (length w.words))) w

-- what the line says that starts at `at`
abbrev pub does : Task → ℕ → Work → Item → Told Work
does t at w Reading.skip = is w
does t at w (Reading.label start size) = labelled t (at + start) size w
does t at w (Reading.says i) = says t i w
does t at w (Reading.refers r start size) = references t r (at + start) size w

unfoldable pub turn : Task → ℕ → Told Item → Work → Told Work
turn t at item w = item >>= does t at w
