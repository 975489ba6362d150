-- Where the byte of an address is, and where a store to it goes.
use Rattle.std.specs.Prelude.{ℕ, ◌+◌, ◌-◌, min, Bool, true, false, not, ◌&&◌, ◌||◌, List, [], ◌∷◌, ltb}
use Rattle.base.specs.Choice.{cond}
use Rattle.map.specs.Regions.{protected}
use Rattle.map.specs.Devices.{device_covers, device_size, used_devices, covered}
use Rattle.map.specs.declared.Device.{Device}
use Rattle.map.specs.declared.Map.{Map}
use Rattle.map.specs.declared.Place.{Place}
use Rattle.map.specs.declared.Place.TheVariants.{Linear, Bank, Nowhere}

-- ---- 01's two sentences

-- of the lent bytes those that have an address: bytes past 65,535 are never touched
abbrev pub addressable : ℕ → ℕ
addressable mem = min mem 65536

-- address a is mapped if a device covers it or a < memory length
unfoldable pub mapped : Map → ℕ → ℕ → Bool
mapped m mem a = covered m a || ltb a (addressable mem)

-- a store succeeds if a device covers a, or a is mapped and not protected
unfoldable pub succeeds : Map → ℕ → ℕ → Bool
succeeds m mem a = covered m a || (mapped m mem a && not (protected m a))

-- ---- where that byte is. In a valid map it is somewhere exactly if the sentences say so (`mapped-rule`, `takes-rule` of proofs/Laws.antt)

unfoldable pub in_linear : ℕ → ℕ → Place
in_linear mem a = cond (ltb a (addressable mem)) (Linear a) Nowhere

-- the byte at an offset from a device's start, where the device's bytes start at base. In a valid map each such byte is within the device buffer
unfoldable pub in_bank : ℕ → ℕ → ℕ → ℕ → Place
in_bank number offset base dev = cond (ltb (base + offset) dev) (Bank number offset (base + offset)) Nowhere

-- the first device that covers a has its byte, else linear memory has it. The first of these devices has this number, and its bytes start at base; those of the next follow
unfoldable pub place_from : List Device → ℕ → ℕ → ℕ → ℕ → ℕ → Place
place_from [] number base mem dev a = in_linear mem a
place_from (d ∷ rest) number base mem dev a =
    cond (device_covers a d) (in_bank number (a - d.start) base dev) (place_from rest (number + 1) (base + device_size d) mem dev a)

-- where the byte of address a is, with mem bytes of linear memory and dev bytes in the device buffer
unfoldable pub place : Map → ℕ → ℕ → ℕ → Place
place m mem dev a = place_from (used_devices m) 0 0 mem dev a

-- a protected linear byte takes no store
unfoldable pub guard : Bool → Place → Place
guard shut (Linear i) = cond shut Nowhere (Linear i)
guard shut (Bank n o i) = Bank n o i
guard shut Nowhere = Nowhere

-- where a store to address a goes
unfoldable pub target : Map → ℕ → ℕ → ℕ → Place
target m mem dev a = guard (protected m a) (place m mem dev a)

unfoldable pub somewhere : Place → Bool
somewhere (Linear i) = true
somewhere (Bank n o i) = true
somewhere Nowhere = false

-- the byte of address a is a linear one: it is there, and no device covers it
unfoldable pub linear_byte : Map → ℕ → ℕ → Bool
linear_byte m mem a = ltb a (addressable mem) && not (covered m a)

-- both bytes of the word at a are linear ones
unfoldable pub linear_word : Map → ℕ → ℕ → Bool
linear_word m mem a = linear_byte m mem a && linear_byte m mem (a + 1)
