-- The marked step and its step-back: both sides are computed, and are the same. Assumes nothing.
use mathlib.Core.Path.{◌≡◌, refl}
use Rattle.base.specs.Addresses.{reached}
use Rattle.base.specs.Told.{is}
use Rattle.instruction.specs.Decode.{decode, arm, arms}
use Rattle.arithmetic.specs.Flags as flags
use Rattle.map.specs.Tables.{any, sound}
use Rattle.map.specs.Regions.{region_is_set, used_regions, spare_regions, protected}
use Rattle.map.specs.Devices.{device_is_set, used_devices, spare_devices, total}
use Rattle.map.specs.Places.{place, place_from, in_linear, target, guard, somewhere}
use Rattle.map.specs.Valid as tables
use Rattle.machine.specs.declared.StepAnswer.TheVariants.{Continue}
use Rattle.machine.specs.Registers as registers
use Rattle.machine.specs.Acts.{act, addressed, word_at, storing, ended}
use Rattle.machine.specs.Plan.{plan, fetched, decoded, finished, raised}
use Rattle.machine.specs.States as machines
use Rattle.machine.specs.Step as machine
use Rattle.memory.specs.Bytes.{get, put, place_in, target_in, read_byte, takes, store_byte}
use Rattle.memory.specs.Bytes as bytes
use Rattle.memory.specs.Words.{read_word, read_high, joined, byte_stored, word_stored, change_at, high_change, word_changes, word_decision, made}
use Rattle.wordbytes.specs.Words as words
use Rattle.records.specs.Records as records
use Rattle.records.specs.Slots.{room, record_at, filled, slot_after, slot_before}
use Rattle.journal.specs.States.{next_in, valid}
use Rattle.journal.specs.Step.{result_of, is_accepted, byte_of, replaced, record_of, advanced, noted, taken, step}
use Rattle.journal.specs.Back as back
use Rattle.journal.specs.Marked.{before, stored, restored}

pub marked_step : step before ≡ result_of (is Continue) stored
unfolding step valid next_in room machines.valid tables.valid tables.valid_regions any spare_regions region_is_set sound used_regions
    tables.valid_devices spare_devices device_is_set used_devices total
    taken machine.step is_accepted machine.committed plan registers.flag registers.get flags.flag
    fetched read_word read_high joined read_byte place_in place place_from in_linear get bytes.read_in reached decoded decode arm arms
    act addressed word_at storing ended word_decision word_stored byte_stored word_changes high_change change_at takes target_in target guard somewhere protected finished raised registers.put made put
    record_of replaced byte_of advanced noted filled records.encode words.bytes_of slot_after
marked_step = refl

pub marked-back : back.step_back stored ≡ back.backed 0 restored
unfolding back.step_back back.back_number back.back_order valid next_in room machines.valid tables.valid tables.valid_regions any spare_regions region_is_set sound used_regions
    tables.valid_devices spare_devices device_is_set used_devices total
    back.fits back.used_by back.newest record_at records.decode words.words_from slot_before
    takes target_in place place_from in_linear target guard somewhere protected back.restored back.undone store_byte put
marked-back = refl
