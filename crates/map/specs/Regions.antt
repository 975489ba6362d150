-- Protected regions. A region (start, len) protects start <= a < start+len.
use Rattle.std.specs.Prelude.{ℕ, ◌+◌, Bool, not, ◌&&◌, ◌||◌, List, leb, ltb, eqb, take, drop}
use Rattle.map.specs.Tables.{any}
use Rattle.map.specs.declared.Region.{Region}
use Rattle.map.specs.declared.Map.{Map}

unfoldable pub region_covers : ℕ → Region → Bool
region_covers a r = leb r.start a && ltb a (r.start + r.len)

-- two protected regions overlap if either's start lies inside the other
unfoldable pub regions_overlap : Region → Region → Bool
regions_overlap t r = region_covers t.start r || region_covers r.start t

-- its end is in range
unfoldable pub region_in_range : Region → Bool
region_in_range r = leb (r.start + r.len) 65535

-- it is not zero
unfoldable pub region_is_set : Region → Bool
region_is_set r = not (eqb r.start 0) || not (eqb r.len 0)

-- the entries in use, and the others
unfoldable pub used_regions : Map → List Region
used_regions m = take m.regions m.region

unfoldable pub spare_regions : Map → List Region
spare_regions m = drop m.regions m.region

-- address a is protected
unfoldable pub protected : Map → ℕ → Bool
protected m a = any (region_covers a) (used_regions m)
