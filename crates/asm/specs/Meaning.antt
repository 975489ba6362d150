-- What a text means, said without words and without patching: the instruction of each of its lines, labels resolved.
-- proofs/Sound.antt holds assembling to it, Strict.antt has what strict assembly promises of it.
use Rattle.std.specs.Prelude.{ℕ, suc, ◌+◌, List, [], ◌∷◌, Option, Some, None, length}
use Rattle.base.specs.Choice.{cond}
use Rattle.base.specs.Told.{Told, is, no}
use Rattle.base.specs.Words.{doubled}
use Rattle.instruction.specs.declared.Instruction.{Instruction}
use Rattle.instruction.specs.Encode.{encode}
use Rattle.text.specs.Lines.{lines}
use Rattle.parser.specs.declared.Reference.{Reference}
use Rattle.parser.specs.References.{resolved}
use Rattle.labels.specs.declared.Label.{Label}
use Rattle.labels.specs.declared.Found.{Found}
use Rattle.labels.specs.Labels.{names}
use Rattle.labels.specs.Labels as Labels
use Rattle.asm.specs.Labels.{part}
use Rattle.asm.specs.Reading.{Item, skip, label, says, refers, read}

-- an item with its place counted from the start of the text
abbrev pub placed : ℕ → Told Item → Item
placed at (is skip) = skip
placed at (is (label start size)) = label (at + start) size
placed at (is (says i)) = says i
placed at (is (refers r start size)) = refers r (at + start) size
placed at (no n) = skip

-- the items of lines, the first of which starts at `at`
abbrev pub items_from : ℕ → List (List ℕ) → List Item
items_from at [] = []
items_from at (l ∷ ls) = placed at (read l) ∷ items_from (at + length l + 1) ls

-- the address of the latest of some definitions of a name, which are given newest first
abbrev pub latest : List ℕ → List ℕ → List Label → Told ℕ
latest text name [] = no 25
latest text name (l ∷ ls) = cond (names text l.place l.length name) (is l.address) (latest text name ls)

-- the address that the first definition of a name among these items has, n instructions having come before them
abbrev pub later : List ℕ → List ℕ → ℕ → List Item → Told ℕ
later text name n [] = no 25
later text name n (skip ∷ items) = later text name n items
later text name n (label place size ∷ items) = cond (names text place size name) (is (doubled n)) (later text name n items)
later text name n (says i ∷ items) = later text name (n + 1) items
later text name n (refers r place size ∷ items) = later text name (n + 1) items

-- the instruction that a line says; or the line refers to a label that is never defined
pub data Meant : Type 0 where
  instruction : Instruction → Meant
  never : Meant

abbrev pub either : Told ℕ → Told ℕ → Told ℕ
either (is a) b = is a
either (no n) b = b

abbrev pub refer : Reference → Told ℕ → Meant
refer r (is a) = instruction (resolved r a)
refer r (no n) = never

-- a name stands for its latest definition before the line, else for the first one after it
abbrev pub meant : List ℕ → List Label → ℕ → List Item → List Meant
meant text before n [] = []
meant text before n (skip ∷ items) = meant text before n items
meant text before n (label place size ∷ items) = meant text (Labels.label place size (doubled n) ∷ before) n items
meant text before n (says i ∷ items) = instruction i ∷ meant text before (n + 1) items
meant text before n (refers r place size ∷ items) =
    refer r (either (latest text (part text place size) before) (later text (part text place size) (n + 1) items))
    ∷ meant text before (n + 1) items

unfoldable pub meaning : List ℕ → List Meant
meaning text = meant text [] 0 (items_from 0 (lines text))

-- the word of it: 0 where the label never comes
abbrev pub word_of : Meant → ℕ
word_of (instruction i) = encode i
word_of never = 0

-- how many lines refer to a label that is never defined
abbrev pub nevers : List Meant → ℕ
nevers [] = 0
nevers (instruction i ∷ ms) = nevers ms
nevers (never ∷ ms) = suc (nevers ms)

-- the definitions among some items, newest first, before older ones; n instructions having come before the items
abbrev pub defined : List Label → ℕ → List Item → List Label
defined before n [] = before
defined before n (skip ∷ items) = defined before n items
defined before n (label place size ∷ items) = defined (Labels.label place size (doubled n) ∷ before) n items
defined before n (says i ∷ items) = defined before (n + 1) items
defined before n (refers r place size ∷ items) = defined before (n + 1) items

-- all definitions of a text, newest first
unfoldable pub definitions : List ℕ → List Label
definitions text = defined [] 0 (items_from 0 (lines text))

-- the address that a search of a label table leads to
abbrev pub leads_to : List Label → Option Found → Told ℕ
leads_to labels (Some f) = is f.address
leads_to labels None = no 25
