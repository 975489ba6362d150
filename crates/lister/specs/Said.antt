-- Request 2 in the listing, to be held beside its words: "the word in memory must mean what the line says". Of an accepted text the
-- listing has a line for each of the source's instructions: its address, its word, and the text of the instruction that the source's
-- line says, labels resolved, which is what the word decodes to. So no word stands there without a text. One case is left: of a line
-- that refers to a label that is never defined, the word is 0 and the text NOOP, and the totals count it. Proved in proofs/Said.antt.
use Rattle.std.specs.Prelude.{ℕ, ◌+◌, ◌<◌, ◌≡◌, List, [], ◌∷◌, ◌++◌, length}
use Rattle.base.specs.Bytes.{bytes}
use Rattle.base.specs.Told.{is}
use Rattle.base.specs.Words.{doubled}
use Rattle.instruction.specs.declared.Instruction.{Instruction}
use Rattle.instruction.specs.Decode.{decode}
use Rattle.printer.specs.Text.{text}
use Rattle.asm.specs.Work.{Work}
use Rattle.asm.specs.Assemble.{accepted}
use Rattle.asm.specs.Meaning.{Meant, instruction, never, meaning, word_of, nevers}
use Rattle.pen.specs.Numbers.{hex}
use Rattle.lister.specs.Listing.{totals, outcome, listing}

abbrev pub meant_text : Meant → List ℕ
meant_text (instruction i) = text i
meant_text never = bytes "NOOP"

-- the lines of what is meant, the first of them being instruction i
unfoldable pub meant_from : ℕ → List Meant → List ℕ
meant_from i [] = []
meant_from i (m ∷ ms) = hex (doubled i) ++ bytes " " ++ hex (word_of m) ++ bytes " " ++ meant_text m ++ bytes "\n" ++ meant_from (i + 1) ms

-- each word decodes to an instruction, whose text is not empty
abbrev pub HaveTexts : List ℕ → Type 0
HaveTexts [] = Unit {0}
HaveTexts (w ∷ ws) = ((i : Instruction) × ((decode w ≡ is i) × (0 < length (text i)))) × HaveTexts ws

pub record Shows (source : List ℕ) (w : Work) : Type 0 where
  pub lines : listing source ≡ meant_from 0 (meaning source) ++ totals (length (meaning source)) (nevers (meaning source))
  pub texts : HaveTexts w.words

abbrev pub ListingMeans : Type 0
ListingMeans = (source : List ℕ) (w : Work) → outcome source ≡ accepted w → Shows source w
