-- What the crates above may use of the entries' orders: in a valid map an entry's number is its order's, a range past 65,535 is 12,
-- and a refusal leaves the map. Assumes nothing.
use Prim.Native.Nat.{ℕ, ◌+◌, ◌<◌}
use mathlib.Core.Path.{◌≡◌, refl}
use mathlib.Core.Bool.{true}
use mathlib.Core.List.{List}
use lib.Dec.{eqb}
use lib.ListN.{length}
use borrow.Author.Tests.{lt-ltb}
use Rattle.base.specs.Choice.{cond}
use Rattle.base.specs.Order.{first_of}
use Rattle.map.specs.Valid.{valid}
use Rattle.map.specs.Entries.{region, device, protect_order, with_region, region_number, region_map, protect_number, protect_map, device_order, with_device, device_number, register_number, register_map}
use Rattle.map.specs.declared.Region.{Region}
use Rattle.map.specs.declared.Device.{Device}
use Rattle.map.specs.declared.Map.{Map}

module _ (m : Map) (r : Region) where
  pub region-order : region_number m r ≡ first_of (protect_order m r)
  unfolding region_number
  region-order = refl

  pub region-map : region_map m r ≡ cond (eqb (region_number m r) 0) (with_region m r) m
  unfolding region_map
  region-map = refl

  pub region-far : 65535 < r.start + r.len → first_of (protect_order m r) ≡ 12
  unfolding protect_order
  region-far h = rw (lt-ltb 65535 (r.start + r.len) h)

module _ (m : Map) (room : ℕ) (d : Device) where
  pub device-order : device_number m room d ≡ first_of (device_order m room d)
  unfolding device_number
  device-order = refl

  pub device-far : 65535 < d.end → first_of (device_order m room d) ≡ 12
  unfolding device_order
  device-far h = rw (lt-ltb 65535 d.end h)

module _ (m : Map) (dev : List ℕ) (start len : ℕ) where
  pub protect-order : valid m dev ≡ true → protect_number m dev start len ≡ first_of (protect_order m (region start len))
  unfolding protect_number
  protect-order v = rw v

  pub protect-map : protect_map m dev start len ≡ cond (eqb (protect_number m dev start len) 0) (with_region m (region start len)) m
  unfolding protect_map
  protect-map = refl

  pub register-order : valid m dev ≡ true → register_number m dev start len ≡ first_of (device_order m (length dev) (device start (start + len)))
  unfolding register_number
  register-order v = rw v

  pub register-map : register_map m dev start len ≡ cond (eqb (register_number m dev start len) 0) (with_device m (device start (start + len))) m
  unfolding register_map
  register-map = refl
