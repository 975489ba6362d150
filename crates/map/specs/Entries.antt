-- Adding an entry to a table: the number of the answer, 0 where it is accepted, and the map afterwards.
use Rattle.std.specs.Prelude.{ℕ, ◌+◌, not, List, [], ◌∷◌, leb, ltb, eqb, length, set, replicate}
use Rattle.base.specs.Choice.{cond}
use Rattle.base.specs.Order.{Refusing, ◌when◌, first_of}
use Rattle.map.specs.Tables.{any}
use Rattle.map.specs.Regions.{regions_overlap, used_regions}
use Rattle.map.specs.Devices.{devices_overlap, device_size, used_devices, total}
use Rattle.map.specs.Valid.{valid}
use Rattle.map.specs.declared.Region.{Region}
use Rattle.map.specs.declared.Device.{Device}
use Rattle.map.specs.declared.Map.{Map}

abbrev pub region : ℕ → ℕ → Region
region start len = record { start = start; len = len }

abbrev pub device : ℕ → ℕ → Device
device start end = record { start = start; end = end }

-- no region and no device
abbrev pub empty_map : Map
empty_map = record { regions = 0; region = replicate 8 (region 0 0); devices = 0; device = replicate 8 (device 0 0) }

-- ---- protected regions

unfoldable pub with_region : Map → Region → Map
with_region m r = record { regions = m.regions + 1; region = set m.region m.regions r; devices = m.devices; device = m.device }

-- protect: 12, 13, 14
unfoldable pub protect_order : Map → Region → List Refusing
protect_order m r =
    12 when ltb 65535 (r.start + r.len)
    ∷ 13 when any (regions_overlap r) (used_regions m)
    ∷ 14 when leb 8 m.regions
    ∷ []

unfoldable pub region_number : Map → Region → ℕ
region_number m r = first_of (protect_order m r)

unfoldable pub region_map : Map → Region → Map
region_map m r = cond (eqb (region_number m r) 0) (with_region m r) m

-- 1 first
unfoldable pub protect_number : Map → List ℕ → ℕ → ℕ → ℕ
protect_number m dev start len = first_of (1 when not (valid m dev) ∷ protect_order m (region start len))

unfoldable pub protect_map : Map → List ℕ → ℕ → ℕ → Map
protect_map m dev start len = cond (eqb (protect_number m dev start len) 0) (with_region m (region start len)) m

-- ---- devices

unfoldable pub with_device : Map → Device → Map
with_device m d = record { regions = m.regions; region = m.region; devices = m.devices + 1; device = set m.device m.devices d }

-- device: 12, 13, 14, 17; in a device buffer of room bytes
unfoldable pub device_order : Map → ℕ → Device → List Refusing
device_order m room d =
    12 when ltb 65535 d.end
    ∷ 13 when any (devices_overlap d) (used_devices m)
    ∷ 14 when leb 8 m.devices
    ∷ 17 when ltb room (total (used_devices m) + device_size d)
    ∷ []

unfoldable pub device_number : Map → ℕ → Device → ℕ
device_number m room d = first_of (device_order m room d)

unfoldable pub device_map : Map → ℕ → Device → Map
device_map m room d = cond (eqb (device_number m room d) 0) (with_device m d) m

-- end = start+size; 1 first
unfoldable pub register_number : Map → List ℕ → ℕ → ℕ → ℕ
register_number m dev start size =
    first_of (1 when not (valid m dev) ∷ device_order m (length dev) (device start (start + size)))

unfoldable pub register_map : Map → List ℕ → ℕ → ℕ → Map
register_map m dev start size = cond (eqb (register_number m dev start size) 0) (with_device m (device start (start + size))) m
