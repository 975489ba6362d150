-- Valid tables: they hold at most 8, unused entries are zero, ends are in range, no device starts past its end,
-- no pair overlaps, device sizes fit the device buffer.
use Rattle.std.specs.Prelude.{ℕ, Bool, not, ◌&&◌, List, leb, length}
use Rattle.map.specs.Tables.{any, sound}
use Rattle.map.specs.Regions.{region_in_range, regions_overlap, region_is_set, used_regions, spare_regions}
use Rattle.map.specs.Devices.{device_in_range, devices_overlap, device_is_set, used_devices, spare_devices, total}
use Rattle.map.specs.declared.Map.{Map}

unfoldable pub valid_regions : Map → Bool
valid_regions m =
    leb m.regions 8 && not (any region_is_set (spare_regions m)) && sound region_in_range regions_overlap (used_regions m)

unfoldable pub valid_devices : Map → Bool
valid_devices m =
    leb m.devices 8 && not (any device_is_set (spare_devices m)) && sound device_in_range devices_overlap (used_devices m)

-- of a map and the bytes of its device buffer
unfoldable pub valid : Map → List ℕ → Bool
valid m dev = valid_regions m && valid_devices m && leb (total (used_devices m)) (length dev)
