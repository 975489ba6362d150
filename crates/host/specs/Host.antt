-- What the host does to a whole state, beside step, run, step-back and forget. 1 first, of the state as a whole: tables, held,
-- next; then each entry's own order. Accepted set-register, protect and device, and every load past 16 and 14, set next and held
-- to 0; the journal's bytes stay.
use Rattle.std.specs.Prelude.{ℕ, ◌+◌, Bool, not, ◌&&◌, List, ◌∷◌, eqb, length}
use Rattle.base.specs.Choice.{cond}
use Rattle.base.specs.Order.{◌when◌, first_of}
use Rattle.map.specs.Entries as map
use Rattle.map.specs.declared.Map.{Map}
use Rattle.memory.specs.Bytes.{Lent}
use Rattle.memory.specs.Program as memory
use Rattle.memory.specs.Blocks as blocks
use Rattle.machine.specs.States as machine
use Rattle.machine.specs.declared.Machine.{Machine}
use Rattle.journal.specs.States.{state, valid}
use Rattle.journal.specs.declared.State.{State}

-- the machine with other tables
abbrev pub with_map : Machine → Map → Machine
with_map m t = record { registers = m.registers; mode = m.mode; map = t }

-- a new machine with an empty journal, where the answer's number is 0
unfoldable pub settled : State → ℕ → Machine → State
settled s n m = cond (eqb n 0) (state m 0 0) s

-- ---- set-register

unfoldable pub set_number : State → List ℕ → List ℕ → ℕ → ℕ
set_number s dev journal number = first_of (1 when not (valid s dev journal) ∷ machine.set_order number)

unfoldable pub set_state : State → List ℕ → List ℕ → ℕ → ℕ → State
set_state s dev journal number value =
    settled s (set_number s dev journal number) (machine.with_register s.machine number value)

-- ---- protect

unfoldable pub protect_number : State → List ℕ → List ℕ → ℕ → ℕ → ℕ
protect_number s dev journal start len =
    first_of (1 when not (valid s dev journal) ∷ map.protect_order s.machine.map (map.region start len))

unfoldable pub protect_state : State → List ℕ → List ℕ → ℕ → ℕ → State
protect_state s dev journal start len =
    settled s (protect_number s dev journal start len) (with_map s.machine (map.with_region s.machine.map (map.region start len)))

-- ---- device

unfoldable pub register_number : State → List ℕ → List ℕ → ℕ → ℕ → ℕ
register_number s dev journal start size =
    first_of (1 when not (valid s dev journal) ∷ map.device_order s.machine.map (length dev) (map.device start (start + size)))

unfoldable pub register_state : State → List ℕ → List ℕ → ℕ → ℕ → State
register_state s dev journal start size =
    settled s (register_number s dev journal start size)
    (with_map s.machine (map.with_device s.machine.map (map.device start (start + size))))

-- ---- load

unfoldable pub load_number : State → Lent → List ℕ → List ℕ → ℕ
load_number s b journal program =
    first_of (1 when not (valid s b.dev journal) ∷ memory.load_order s.machine.map b program)

-- it comes as far as storing the first word: none of 1, 16, 14
unfoldable pub begins : State → Lent → List ℕ → List ℕ → Bool
begins s b journal program = valid s b.dev journal && memory.begins s.machine.map program

-- the tables: a refusal leaves them
unfoldable pub load_map : State → Lent → List ℕ → List ℕ → Map
load_map s b journal program =
    cond (eqb (load_number s b journal program) 0) (map.with_region s.machine.map (map.region 0 (length program))) s.machine.map

-- 15 and 13 keep what was stored and the emptied journal
unfoldable pub load_state : State → Lent → List ℕ → List ℕ → State
load_state s b journal program =
    cond (begins s b journal program) (state (with_map s.machine (load_map s b journal program)) 0 0) s

unfoldable pub load_bytes : State → Lent → List ℕ → List ℕ → Lent
load_bytes s b journal program = cond (begins s b journal program) (memory.store_words s.machine.map b 0 program).bytes b

-- ---- reading memory out, with room bytes in the buffer

unfoldable pub read_number : State → Lent → List ℕ → ℕ → ℕ → ℕ → ℕ
read_number s b journal start size room =
    first_of (1 when not (valid s b.dev journal) ∷ blocks.read_order start size room)

unfoldable pub read_out : State → Lent → List ℕ → ℕ → ℕ → ℕ → blocks.Counted
read_out s b journal start size room = blocks.counting s.machine.map b start size (read_number s b journal start size room)

unfoldable pub read_out_buffer : State → Lent → List ℕ → ℕ → ℕ → List ℕ → List ℕ
read_out_buffer s b journal start size buffer =
    blocks.copying s.machine.map b start size (read_number s b journal start size (length buffer)) buffer

-- ---- for an inner function's contract alone

-- whether a load came past 16 and 14, by its answer's number, in a valid state
unfoldable pub past : ℕ → Bool
past n = not (eqb n 16) && not (eqb n 14)
