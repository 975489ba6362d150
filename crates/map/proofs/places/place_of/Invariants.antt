-- The place found from entry i on, with the devices before it passed over, is the place. Assumes nothing.
use Rattle.std.proofs.Common.{◌≡◌, ◌*◌, ◌≤◌, drop}
use Rattle.map.specs.Devices.{used_devices}
use Rattle.map.specs.Places.{place, place_from}
use Rattle.map.proofs.places.place_of.Given as goal

abbrev pub invariant-loop-number : goal.invariant-loop-number
invariant-loop-number l =
    (l.base ≤ 65535 * l.number) × (place l.m l.mem l.dev l.a ≡ place_from (drop l.number (used_devices l.m)) l.number l.base l.mem l.dev l.a)
