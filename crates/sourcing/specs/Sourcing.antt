-- What the program writes of its input: the text of its words, or one line that says the refusal. Of an input with more words than a
-- program may have, as many are read as show that.
use Rattle.std.specs.Prelude.{ℕ, List, ◌++◌, take}
use Rattle.base.specs.Bytes.{bytes}
use Rattle.pen.specs.Numbers.{decimal}
use Rattle.wordbytes.specs.Words.{words_in}
use Rattle.source.specs.Source.{Answer, length_of, refusal, source_text, byte_answer, longest_text}

unfoldable pub refusal_line : ℕ → ℕ → List ℕ
refusal_line number index = bytes "refused " ++ decimal number ++ bytes " at " ++ decimal index ++ bytes "\n"

abbrev pub told_of : List ℕ → Answer → List ℕ
told_of read (length_of n) = source_text (words_in read)
told_of read (refusal number index) = refusal_line number index

-- of the bytes that are read
unfoldable pub read_output : List ℕ → List ℕ
read_output read = told_of read (byte_answer read longest_text)

abbrev pub output_of : List ℕ → List ℕ
output_of input = read_output (take 65536 input)
