-- Devices. A device covers start <= a < end.
use Rattle.std.specs.Prelude.{ℕ, ◌+◌, ◌-◌, Bool, not, ◌&&◌, ◌||◌, List, [], ◌∷◌, leb, ltb, eqb, take, drop}
use Rattle.map.specs.Tables.{any}
use Rattle.map.specs.declared.Device.{Device}
use Rattle.map.specs.declared.Map.{Map}

unfoldable pub device_covers : ℕ → Device → Bool
device_covers a d = leb d.start a && ltb a d.end

-- it covers one of two addresses
unfoldable pub covers_either : ℕ → ℕ → Device → Bool
covers_either a b d = device_covers a d || device_covers b d

-- how many bytes of the device buffer it has
unfoldable pub device_size : Device → ℕ
device_size d = d.end - d.start

-- refused as overlapping if start <= an old end and end >= that old start
unfoldable pub devices_overlap : Device → Device → Bool
devices_overlap e d = leb e.start d.end && leb d.start e.end

-- its end is in range, and it does not start past its end
unfoldable pub device_in_range : Device → Bool
device_in_range d = leb d.end 65535 && leb d.start d.end

-- it is not zero
unfoldable pub device_is_set : Device → Bool
device_is_set d = not (eqb d.start 0) || not (eqb d.end 0)

-- the entries in use, and the others
unfoldable pub used_devices : Map → List Device
used_devices m = take m.devices m.device

unfoldable pub spare_devices : Map → List Device
spare_devices m = drop m.devices m.device

-- a device covers address a
abbrev pub covered : Map → ℕ → Bool
covered m a = any (device_covers a) (used_devices m)

-- the bytes that devices have together
unfoldable pub total : List Device → ℕ
total [] = 0
total (d ∷ rest) = device_size d + total rest
