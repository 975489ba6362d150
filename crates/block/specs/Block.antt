-- The block: a machine's state as a C host holds it, 87 bytes. A word is two bytes, the low one first.
--
--   from   bytes   what
--      0      16   the registers A, B, C, M, SP, PC, BP, FLAGS
--     16       1   debug: 0 or 1
--     17       1   how many regions are protected
--     18      32   eight protected regions: start, len
--     50       1   how many devices there are
--     51      32   eight devices: start, end
--     83       2   next
--     85       2   held
use Rattle.std.specs.Prelude.{ℕ, Bool, ◌&&◌, List, [], ◌∷◌, ◌++◌, eqb, leb, length, get_or}
use Rattle.base.specs.Choice.{cond}
use Rattle.base.specs.Words.{low_of}
use Rattle.wordbytes.specs.Words.{bytes_of, word_at, words_from}
use Rattle.map.specs.Entries.{region, device}
use Rattle.map.specs.declared.Region.{Region}
use Rattle.map.specs.declared.Device.{Device}
use Rattle.map.specs.declared.Map.{Map}
use Rattle.machine.specs.declared.Machine.{Machine}
use Rattle.block.specs.Entries.{entry_words, entries_from}
use Rattle.journal.specs.States.{state}
use Rattle.journal.specs.declared.State.{State}

-- ---- from a state

abbrev pub region_words : List Region → List ℕ
region_words = entry_words (λ (r : Region). r.start) (λ (r : Region). r.len)

abbrev pub device_words : List Device → List ℕ
device_words = entry_words (λ (d : Device). d.start) (λ (d : Device). d.end)

abbrev pub flag : Bool → ℕ
flag debug = cond debug 1 0

-- a count takes one byte; that of a valid state fits
unfoldable pub packed : State → List ℕ
packed s =
    let m = s.machine in
    bytes_of m.registers.value
    ++ (flag m.mode.debug ∷ low_of m.map.regions ∷ bytes_of (region_words m.map.region))
    ++ (low_of m.map.devices ∷ bytes_of (device_words m.map.device))
    ++ bytes_of (s.next ∷ s.held ∷ [])

-- ---- and back

abbrev pub regions_from : ℕ → List ℕ → ℕ → List Region
regions_from = entries_from region

abbrev pub devices_from : ℕ → List ℕ → ℕ → List Device
devices_from = entries_from device

abbrev pub map_in : List ℕ → Map
map_in b =
    record { regions = get_or b 17 0; region = regions_from 8 b 18; devices = get_or b 50 0; device = devices_from 8 b 51 }

abbrev pub machine_in : List ℕ → Machine
machine_in b =
    record { registers = record { value = words_from 8 b }; mode = record { debug = eqb (get_or b 16 0) 1 }; map = map_in b }

unfoldable pub unpacked : List ℕ → State
unpacked b = state (machine_in b) (word_at b 83) (word_at b 85)

-- ---- which bytes are a block: any counts, entries, next and held, for a state may be invalid. All else is refused with 31

unfoldable pub is_block : List ℕ → Bool
is_block b = eqb (length b) 87 && leb (get_or b 16 0) 1
