-- Request 2 as a C host meets it, to be held beside its words: "the word in memory must mean what the line says". Where
-- kettle_assemble is told to be strict and answers code 0, the first words of the host's buffer, as many as the answer counts,
-- decode to the very instructions that the text's lines say, labels resolved; one case is left, a reference to a label that is never
-- defined: its word is 0, and the answer counts it. It speaks of what the host sees alone: the number and the bytes. Proved in
-- proofs/Means.antt.
use Rattle.std.specs.Prelude.{ℕ, ◌/◌, ◌%◌, ◌≡◌, true, List, take}
use Rattle.wordbytes.specs.Words.{words_in}
use Rattle.asm.specs.Strict.{Means}
use Rattle.seamkettle.specs.Calls.{assemble_number, assembled_words}

-- ---- what the host takes from an answer: the header's kettle_code_of, kettle_words and kettle_open_references

abbrev pub code_of : ℕ → ℕ
code_of answer = answer % 65536

abbrev pub words_counted : ℕ → ℕ
words_counted answer = answer / 65536 % 65536

abbrev pub open_counted : ℕ → ℕ
open_counted answer = answer / 4294967296 % 65536

-- ---- the promise

-- of an answer, and of the bytes in the host's buffer with it
abbrev pub Said : List ℕ → ℕ → List ℕ → Type 0
Said text answer bytes = code_of answer ≡ 0 → Means text (take (words_counted answer) (words_in bytes)) (open_counted answer)

abbrev pub MeansFromC : Type 0
MeansFromC = (text words : List ℕ) → Said text (assemble_number true text words) (assembled_words true text words)
