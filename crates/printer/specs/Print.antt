-- Printing: the position after the text, or 19 where the buffer is shorter, and then nothing is written.
use Rattle.std.specs.Prelude.{ℕ, ◌+◌, List, ◌++◌, leb, length, take, drop}
use Rattle.base.specs.Choice.{cond}
use Rattle.base.specs.Told.{Told, is, no, ◌>>=◌}
use Rattle.instruction.specs.declared.Edition.{Edition}
use Rattle.instruction.specs.declared.Edition.TheVariants.{First}
use Rattle.instruction.specs.declared.Instruction.{Instruction}
use Rattle.instruction.specs.Decode.{decode}
use Rattle.printer.specs.Text.{text_in}

-- these bytes at a position of a buffer, whose other bytes stay
unfoldable pub placed : List ℕ → List ℕ → ℕ → List ℕ
placed bytes buffer at = take at buffer ++ bytes ++ drop (at + length bytes) buffer

-- with room bytes in the buffer
unfoldable pub print_next_in : Edition → Instruction → ℕ → ℕ → Told ℕ
print_next_in e i room at = cond (leb (at + length (text_in e i)) room) (is (at + length (text_in e i))) (no 19)

unfoldable pub print_buffer_in : Edition → Instruction → List ℕ → ℕ → List ℕ
print_buffer_in e i buffer at = cond (leb (at + length (text_in e i)) (length buffer)) (placed (text_in e i) buffer at) buffer

-- as a listing shows it
abbrev pub print_next : Instruction → ℕ → ℕ → Told ℕ
print_next i room at = print_next_in First i room at

abbrev pub print_buffer : Instruction → List ℕ → ℕ → List ℕ
print_buffer i buffer at = print_buffer_in First i buffer at

-- ---- what a word says, at the start of a buffer: 4 to 6 where it says no instruction, then 19; both write nothing

unfoldable pub word_next : ℕ → ℕ → Told ℕ
word_next w room = decode w >>= λ i. print_next i room 0

abbrev pub said_buffer : Told Instruction → List ℕ → List ℕ
said_buffer (is i) buffer = print_buffer i buffer 0
said_buffer (no n) buffer = buffer

unfoldable pub word_buffer : ℕ → List ℕ → List ℕ
word_buffer w buffer = said_buffer (decode w) buffer
