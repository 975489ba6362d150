-- Scanning from entry i on finds what scanning the whole table does. Assumes nothing.
use Rattle.std.proofs.Common.{◌≡◌, drop}
use Rattle.map.specs.Tables.{any}
use Rattle.map.specs.Regions.{region_covers, used_regions, protected}
use Rattle.map.proofs.regions.is_protected.Given as goal

abbrev pub invariant-loop-i : goal.invariant-loop-i
invariant-loop-i l = protected l.m l.a ≡ any (region_covers l.a) (drop l.i (used_regions l.m))
