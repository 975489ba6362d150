-- Request 3 as a C host meets it, to be held beside its words: "such that plain assembly of it gives the very same words, given room in
-- the assembler's tables". Where kettle_text answers code 0, the first bytes of the host's buffer, as many as the answer tells, are a
-- text. kettle_assemble, not strict, with a buffer as long as the words were, answers code 0 for it, no reference open, and leaves the
-- very same bytes; or it answers 28, and then more than 512 of the words refer to a label. But for that count it speaks of what the host
-- sees alone: the numbers and the bytes. Proved in proofs/Back.antt.
use Rattle.std.specs.Prelude.{ℕ, ◌/◌, ◌<◌, ◌≡◌, true, false, List, map, ◌⊎◌, length, take}
use Rattle.wordbytes.specs.Words.{words_in, are_bytes}
use Rattle.source.specs.Words.{instruction_of}
use Rattle.source.specs.Source.{byte_answer, byte_buffer}
use Rattle.source.specs.Promises.{references}
use Rattle.numbers.specs.Answers.{sourced_number}
use Rattle.seamkettle.specs.Calls.{assemble_number, assembled_words}
use Rattle.seamkettle.specs.Means.{code_of, open_counted}

-- what the host takes from an answer of kettle_text with code 0: the header's kettle_bytes
abbrev pub bytes_counted : ℕ → ℕ
bytes_counted answer = answer / 65536

-- of a text, and of a buffer that its words go into
pub record Same (text buffer words : List ℕ) : Type 0 where
  pub code : code_of (assemble_number false text buffer) ≡ 0
  pub closed : open_counted (assemble_number false text buffer) ≡ 0
  pub bytes : assembled_words false text buffer ≡ words

abbrev pub Full : List ℕ → List ℕ → List ℕ → Type 0
Full text buffer words = (code_of (assemble_number false text buffer) ≡ 28) × (512 < references (length (words_in words)) (map instruction_of (words_in words)))

abbrev pub BackFromC : Type 0
BackFromC = (words out buffer : List ℕ) → are_bytes words ≡ true → length buffer ≡ length words →
    let answer = sourced_number (byte_answer words (length out)) in
    let text = take (bytes_counted answer) (byte_buffer words out) in
    code_of answer ≡ 0 → Same text buffer words ⊎ Full text buffer words
