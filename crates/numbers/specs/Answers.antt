-- The one number that an entry answers. Its low 16 bits are the code: 0 for accepted (Continue), 1 to 255 for the refusal of that
-- number, 256 for Debug, 257 for Stop. What is counted stands in the bits above.
use Rattle.std.specs.Prelude.{ℕ, ◌+◌, ◌*◌, min, Bool, true, ◌&&◌, ltb}
use Rattle.base.specs.Told.{Told, is, no}
use Rattle.machine.specs.declared.StepAnswer.{StepAnswer}
use Rattle.machine.specs.declared.StepAnswer.TheVariants.{Continue, Debug, Stop}
use Rattle.memory.specs.Blocks.{Counted}
use Rattle.asm.specs.Assemble.{Report, counts}
use Rattle.asm.specs.Assemble as Assemble
use Rattle.source.specs.Source.{Answer, length_of, refusal}

abbrev pub coded : ℕ → ℕ → ℕ
coded code above = code + 65536 * above

abbrev pub step_code : Told StepAnswer → ℕ
step_code (is Continue) = 0
step_code (is Debug) = 256
step_code (is Stop) = 257
step_code (no n) = n

-- ---- reading out: how many bytes were copied

abbrev pub counted_number : Counted → ℕ
counted_number c = coded c.number c.count

-- ---- the listing: how long it is

abbrev pub listed_number : Told ℕ → ℕ
listed_number (is n) = coded 0 n
listed_number (no n) = n

-- ---- text for words: how long it is; of a refusal the word's index, for NoText

abbrev pub sourced_number : Answer → ℕ
sourced_number (length_of n) = coded 0 n
sourced_number (refusal n index) = coded n index

-- ---- assembling

-- 2^48 - 1
abbrev pub most_lines : ℕ
most_lines = 281474976710655

-- words in bits 16 to 31, open references in 32 to 47, labels in 48 to 63; of a refusal the line, at most 2^48 - 1
abbrev pub assembled_number : Report → ℕ
assembled_number (counts words labels waiting) = 65536 * words + 4294967296 * waiting + 281474976710656 * labels
assembled_number (Assemble.refusal n line) = coded n (min line most_lines)

-- ---- for inner functions' contracts alone

-- each of the three has 16 bits
unfoldable pub fitting : Report → Bool
fitting (counts words labels waiting) = ltb words 65536 && ltb labels 65536 && ltb waiting 65536
fitting (Assemble.refusal n line) = true
