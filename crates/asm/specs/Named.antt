-- For proofs alone: what a text means by the names in its lines, without places: Meaning.antt's definitions, with each name itself where those
-- have its place. proofs/Named.antt has that the two are one.
use Rattle.std.specs.Prelude.{ℕ, ◌+◌, List, [], ◌∷◌}
use Rattle.base.specs.Bytes.{same}
use Rattle.base.specs.Choice.{cond}
use Rattle.base.specs.Told.{Told, is, no}
use Rattle.base.specs.Words.{doubled}
use Rattle.instruction.specs.declared.Instruction.{Instruction}
use Rattle.parser.specs.declared.Reference.{Reference}
use Rattle.labels.specs.declared.Label.{Label}
use Rattle.asm.specs.Labels.{part}
use Rattle.asm.specs.Reading.{Item, read}
use Rattle.asm.specs.Reading as Reading
use Rattle.asm.specs.Meaning.{Meant, instruction, either, refer}

-- what a line is
pub data Named : Type 0 where
  skip : Named
  label : List ℕ → Named
  says : Instruction → Named
  refers : Reference → List ℕ → Named

-- a name, and the address of the label
pub data Definition : Type 0 where
  def : List ℕ → ℕ → Definition

-- an item whose places are in this text
abbrev pub name_item : List ℕ → Item → Named
name_item text Reading.skip = skip
name_item text (Reading.label place size) = label (part text place size)
name_item text (Reading.says i) = says i
name_item text (Reading.refers r place size) = refers r (part text place size)

abbrev pub name_label : List ℕ → Label → Definition
name_label text l = def (part text l.place l.length) l.address

-- a line by itself; one that can't be read is no item
abbrev pub name_told : List ℕ → Told Item → Named
name_told line (is i) = name_item line i
name_told line (no n) = skip

abbrev pub name_line : List ℕ → Named
name_line line = name_told line (read line)

-- the address of the latest of some definitions of a name, which are given newest first
abbrev pub latest_of : List ℕ → List Definition → Told ℕ
latest_of name [] = no 25
latest_of name (def m a ∷ ds) = cond (same m name) (is a) (latest_of name ds)

-- the address that the first definition of a name among these has, n instructions having come before them
abbrev pub later_of : List ℕ → ℕ → List Named → Told ℕ
later_of name n [] = no 25
later_of name n (skip ∷ items) = later_of name n items
later_of name n (label m ∷ items) = cond (same m name) (is (doubled n)) (later_of name n items)
later_of name n (says i ∷ items) = later_of name (n + 1) items
later_of name n (refers r m ∷ items) = later_of name (n + 1) items

-- a name stands for its latest definition before the line, else for the first one after it
abbrev pub meant_of : List Definition → ℕ → List Named → List Meant
meant_of before n [] = []
meant_of before n (skip ∷ items) = meant_of before n items
meant_of before n (label m ∷ items) = meant_of (def m (doubled n) ∷ before) n items
meant_of before n (says i ∷ items) = instruction i ∷ meant_of before (n + 1) items
meant_of before n (refers r m ∷ items) = refer r (either (latest_of m before) (later_of m (n + 1) items)) ∷ meant_of before (n + 1) items
