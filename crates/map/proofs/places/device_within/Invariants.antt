-- Scanning from entry i on finds what scanning the whole table does. Assumes nothing.
use Rattle.std.proofs.Common.{◌≡◌, drop}
use Rattle.map.specs.Tables.{any}
use Rattle.map.specs.Devices.{covers_either, used_devices}
use Rattle.map.proofs.places.device_within.Given as goal

abbrev pub invariant-loop-number : goal.invariant-loop-number
invariant-loop-number l = any (covers_either l.a l.b) (used_devices l.m) ≡ any (covers_either l.a l.b) (drop l.number (used_devices l.m))
