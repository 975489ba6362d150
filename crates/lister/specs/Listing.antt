-- 01, "Listing, whole": what the listing program prints of a text, byte for byte. Every line ends with byte 10.
use Rattle.std.specs.Prelude.{ℕ, ◌+◌, true, List, [], ◌∷◌, ◌++◌, leb, length}
use Rattle.base.specs.Bytes.{bytes}
use Rattle.base.specs.Choice.{cond}
use Rattle.base.specs.Told.{Told, is, no}
use Rattle.base.specs.Words.{doubled}
use Rattle.instruction.specs.declared.Instruction.{Instruction}
use Rattle.instruction.specs.Decode.{decode}
use Rattle.printer.specs.Text.{text}
use Rattle.printer.specs.Print.{placed}
use Rattle.pen.specs.Numbers.{hex, two_numbers}
use Rattle.asm.specs.Work.{task}
use Rattle.asm.specs.Assemble.{Outcome, accepted, refused, assemble}

-- ---- lines

-- a word that says no instruction would have no text; strict assembly makes none
abbrev pub text_of : Told Instruction → List ℕ
text_of (is i) = text i
text_of (no n) = []

-- the address of word i, the word, what it says
unfoldable pub line : ℕ → ℕ → List ℕ
line i w = hex (doubled i) ++ bytes " " ++ hex w ++ bytes " " ++ text_of (decode w) ++ bytes "\n"

-- a line for each word, the first of them being word i
unfoldable pub lines_from : ℕ → List ℕ → List ℕ
lines_from i [] = []
lines_from i (w ∷ ws) = line i w ++ lines_from (i + 1) ws

unfoldable pub totals : ℕ → ℕ → List ℕ
totals words waiting = two_numbers (bytes "words ") words (bytes " open ") waiting

unfoldable pub refusal : ℕ → ℕ → List ℕ
refusal number place = two_numbers (bytes "refused ") number (bytes " line ") place

-- ---- the whole

-- a refusal prints its line and no other
abbrev pub shown : Outcome → List ℕ
shown (accepted w) = lines_from 0 w.words ++ totals (length w.words) (length w.waiting)
shown (refused number place) = refusal number place

-- strictly, with room for 32,767 words and 1,024 labels; a text over 65,536 bytes is 19 at line 0
unfoldable pub outcome : List ℕ → Outcome
outcome source = cond (leb (length source) 65536) (assemble (task true source 32767 1024)) (refused 19 0)

unfoldable pub listing : List ℕ → List ℕ
listing source = shown (outcome source)

-- ---- into a lent buffer: how long the listing is, or 19 where the buffer is shorter, and then nothing is written

unfoldable pub listed : List ℕ → ℕ → Told ℕ
listed source room = cond (leb (length (listing source)) room) (is (length (listing source))) (no 19)

-- the bytes past the listing stay
unfoldable pub listed_buffer : List ℕ → List ℕ → List ℕ
listed_buffer source buffer = cond (leb (length (listing source)) (length buffer)) (placed (listing source) buffer 0) buffer
