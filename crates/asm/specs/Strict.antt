-- Request 2, to be held beside its words: "the word in memory must mean what the line says. Refuse a register-mode CJP too." Four
-- statements: when strict assembly gives 32, what it accepts, that it gives nothing else beside 30 and what plain assembly gives, and
-- what its words say. Proved in proofs/Refusals.antt, Exact.antt, Plain.antt and Sound.antt.
use Rattle.std.specs.Prelude.{ℕ, ◌≡◌, true, false, List, [], ◌∷◌, ◌⊎◌, length}
use Rattle.base.specs.Told.{Told, is, no}
use Rattle.instruction.specs.declared.Instruction.TheVariants.{CondJmp}
use Rattle.instruction.specs.declared.Operand.TheVariants.{Reg}
use Rattle.instruction.specs.declared.Register.{Register}
use Rattle.instruction.specs.Decode.{decode}
use Rattle.instruction.specs.Fits.{fits, decodable}
use Rattle.asm.specs.Reading.{Item, read}
use Rattle.asm.specs.Reading as Reading
use Rattle.asm.specs.Work.{Task, Work, turn}
use Rattle.asm.specs.Assemble.{Outcome, accepted, refused, outcome}
use Rattle.asm.specs.Meaning.{Meant, instruction, never, meaning, nevers}

-- ---- 32: exactly in strict assembly, and of a line that says a CJP to a register, wherever it stands. Not of a label line, then.

abbrev pub Cjp : Told Item → Type 0
Cjp item = (r : Register) × (item ≡ is (Reading.says (CondJmp (Reg r))))

abbrev pub StrictRefuses : Type 0
StrictRefuses = (t : Task) (at : ℕ) (line : List ℕ) (w : Work) →
    (turn t at (read line) w ≡ no 32 → (t.strict ≡ true) × Cjp (read line)) ×
    ((t.strict ≡ true) × Cjp (read line) → turn t at (read line) w ≡ no 32)

-- ---- strict assembly accepts exactly what plain assembly accepts and whose instructions all fit and decode back, with the same words

abbrev pub Sayable : List Meant → Type 0
Sayable [] = Unit {0}
Sayable (instruction i ∷ ms) = ((fits i ≡ true) × (decodable i ≡ true)) × Sayable ms
Sayable (never ∷ ms) = Sayable ms

abbrev pub StrictAccepts : Type 0
StrictAccepts = (text : List ℕ) (word_room label_room : ℕ) (w : Work) →
    (outcome true text word_room label_room ≡ accepted w → (outcome false text word_room label_room ≡ accepted w) × Sayable (meaning text)) ×
    (outcome false text word_room label_room ≡ accepted w → Sayable (meaning text) → outcome true text word_room label_room ≡ accepted w)

-- ---- what it does not accept, it refuses as plain assembly does, or with 30, or with 32

abbrev pub AsPlain : Outcome → Outcome → Type 0
AsPlain strict plain = (strict ≡ plain) ⊎ ((line : ℕ) × ((strict ≡ refused 30 line) ⊎ (strict ≡ refused 32 line)))

abbrev pub StrictPlain : Type 0
StrictPlain = (text : List ℕ) (word_room label_room : ℕ) → AsPlain (outcome true text word_room label_room) (outcome false text word_room label_room)

-- ---- the words of a strictly accepted text decode, one by one, to the very instructions that its lines say, labels resolved to the
-- very addresses (Meaning.antt). One case is left: a line that refers to a label that is never defined. Its word is 0, and the answer
-- counts these lines.

-- a word says what a line means
abbrev pub Says : Meant → ℕ → Type 0
Says (instruction i) w = decode w ≡ is i
Says never w = w ≡ 0

-- one word for each of what the lines mean, and it says that
abbrev pub AllSay : List Meant → List ℕ → Type 0
AllSay [] [] = Unit {0}
AllSay [] (w ∷ ws) = ⊥
AllSay (m ∷ ms) [] = ⊥
AllSay (m ∷ ms) (w ∷ ws) = Says m w × AllSay ms ws

-- words, and how many references stayed open, say what a text means
pub record Means (text words : List ℕ) (waiting : ℕ) : Type 0 where
  pub says : AllSay (meaning text) words
  pub counts : waiting ≡ nevers (meaning text)

abbrev pub StrictMeans : Type 0
StrictMeans = (text : List ℕ) (word_room label_room : ℕ) (w : Work) → outcome true text word_room label_room ≡ accepted w →
    Means text w.words (length w.waiting)
