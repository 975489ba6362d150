-- What each entry does, seen from C: the number that it answers, and every byte that was lent to it, afterwards.
use Rattle.std.specs.Prelude.{ℕ, ◌+◌, ◌*◌, ◌/◌, Bool, ◌&&◌, List, length}
use Rattle.base.specs.Choice.{cond}
use Rattle.wordbytes.specs.Words.{bytes_of, words_in, even}
use Rattle.memory.specs.Bytes.{Lent}
use Rattle.journal.specs.States.{Whole, whole}
use Rattle.journal.specs.declared.State.{State}
use Rattle.journal.specs.Step.{step}
use Rattle.journal.specs.Run.{run}
use Rattle.journal.specs.Back.{step_back}
use Rattle.host.specs.Host as host
use Rattle.asm.specs.Assemble.{Outcome, outcome, words_of, filled, report}
use Rattle.block.specs.Block.{is_block, packed, unpacked}
use Rattle.numbers.specs.Answers.{coded, step_code, counted_number, assembled_number}

-- ---- entries that may write memory, devices or journal: kettle_step, kettle_run, kettle_step_back, kettle_load

pub record Seen : Type 0 where
  pub number : ℕ
  pub block : List ℕ
  pub bytes : Lent
  pub journal : List ℕ

abbrev pub seen : ℕ → List ℕ → Lent → List ℕ → Seen
seen n block b j = record { number = n; block = block; bytes = b; journal = j }

-- the number, and the whole of it packed
abbrev pub shown : ℕ → Whole → Seen
shown n w = seen n (packed w.state) w.bytes w.journal

-- 31 and all as it was, unless there is a block
abbrev pub through : Bool → (Whole → Seen) → List ℕ → Lent → List ℕ → Seen
through good entry block b j = cond good (entry (whole (unpacked block) b j)) (seen 31 block b j)

unfoldable pub stepping : List ℕ → Lent → List ℕ → Seen
stepping block b j = through (is_block block) (λ w. let a = step w in shown (step_code a.answer) a.whole) block b j

unfoldable pub running : ℕ → List ℕ → Lent → List ℕ → Seen
running n block b j =
    through (is_block block) (λ w. let r = run n w in shown (coded (step_code r.answer) r.count) r.whole) block b j

unfoldable pub stepping_back : List ℕ → Lent → List ℕ → Seen
stepping_back block b j = through (is_block block) (λ w. let a = step_back w in shown a.number a.whole) block b j

-- a load, all there is after it
abbrev pub loaded : Whole → List ℕ → Whole
loaded w program =
    let s = w.state in
    whole (host.load_state s w.bytes w.journal program) (host.load_bytes s w.bytes w.journal program) w.journal

unfoldable pub loading : List ℕ → List ℕ → Lent → List ℕ → Seen
loading words block b j =
    through (is_block block && even words)
    (λ w. shown (host.load_number w.state w.bytes w.journal (words_in words)) (loaded w (words_in words))) block b j

-- ---- entries that write the block alone: kettle_set_register, kettle_protect, kettle_device, kettle_forget, each over its definition of a state. What
-- a refusal leaves as it was is packed as it was (proofs/Refused.antt)

unfoldable pub number_in : List ℕ → (State → ℕ) → ℕ
number_in block entry = cond (is_block block) (entry (unpacked block)) 31

unfoldable pub block_after : List ℕ → (State → State) → List ℕ
block_after block entry = cond (is_block block) (packed (entry (unpacked block))) block

-- ---- kettle_read: reading memory out into a buffer

unfoldable pub read_number : List ℕ → Lent → List ℕ → ℕ → ℕ → ℕ → ℕ
read_number block b j start size room = number_in block (λ s. counted_number (host.read_out s b j start size room))

unfoldable pub read_buffer : List ℕ → Lent → List ℕ → ℕ → ℕ → List ℕ → List ℕ
read_buffer block b j start size buffer = cond (is_block block) (host.read_out_buffer (unpacked block) b j start size buffer) buffer

-- ---- kettle_assemble: with 1,024 label entries of its own, into a buffer for half as many words as it has bytes

unfoldable pub assembling : Bool → List ℕ → List ℕ → Outcome
assembling strict text words = outcome strict text (length words / 2) 1024

unfoldable pub assemble_number : Bool → List ℕ → List ℕ → ℕ
assemble_number strict text words = cond (even words) (assembled_number (report (assembling strict text words))) 31

-- 31 zeroes nothing
unfoldable pub assembled_words : Bool → List ℕ → List ℕ → List ℕ
assembled_words strict text words =
    cond (even words) (bytes_of (filled (length words / 2) (words_of (assembling strict text words)))) words

-- ---- kettle_version: 0.4.0, with two decimal digits each for minor and patch

abbrev pub version : ℕ
version = 10000 * 0 + 100 * 4 + 0
