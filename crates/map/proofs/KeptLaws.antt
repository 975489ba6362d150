-- Tables keep their eight entries and stay valid under protect and a new device: the new entry is right and meets no other. Assumes nothing.
use mathlib.Core.Path.{◌≡◌, refl, ◌∙◌}
use mathlib.Core.Bool.{true, false, not, or_comm, and_comm}
use mathlib.Core.List.{List, [], ◌∷◌, ◌++◌}
use Prim.Native.Nat.{ℕ, ◌+◌, ◌≤◌, ◌<◌}
use native.Mathlib.Omega.{arith}
use lib.Dec.{leb, eqb}
use lib.ListN.{length, take, drop, length-set}
use borrow.Author.Tests.{leb-false, ltb-false, le-leb, not-true}
use Rattle.map.specs.Tables.{any, sound}
use Rattle.map.specs.Regions.{region_covers, regions_overlap, region_in_range, region_is_set, used_regions, spare_regions}
use Rattle.map.specs.Devices.{device_size, devices_overlap, device_in_range, device_is_set, used_devices, spare_devices, total}
use Rattle.map.specs.Valid.{valid_regions, valid_devices, valid}
use Rattle.map.specs.Entries.{protect_order, with_region, region_number, device_order, with_device, device_number}
use Rattle.map.specs.declared.Region.{Region}
use Rattle.map.specs.declared.Device.{Device}
use Rattle.map.specs.declared.Map.{Map}
use Rattle.base.proofs.OrderLaws.{passed}
use Rattle.base.proofs.Tests.{second, third}
use Rattle.map.proofs.SoundLaws.{sound_more, used-more, spare-fewer}
use Rattle.map.proofs.Laws.{valid-regions, valid-devices, valid-room}

-- both tables have eight entries, as the code's arrays do
pub record Eight (m : Map) : Type 0 where
  pub regions : length m.region ≡ 8
  pub devices : length m.device ≡ 8

-- ---- what it takes to be accepted

pub region-taken : (m : Map) (r : Region) → eqb (region_number m r) 0 ≡ true → (r.start + r.len ≤ 65535) × (any (regions_overlap r) (used_regions m) ≡ false) × (m.regions < 8)
unfolding region_number protect_order
region-taken m r e =
    let t = passed (protect_order m r) e in
    (ltb-false 65535 (r.start + r.len) t.0, t.1.0, leb-false 8 m.regions t.1.1.0)

device-taken : (m : Map) (room : ℕ) (d : Device) → eqb (device_number m room d) 0 ≡ true
    → (d.end ≤ 65535) × (any (devices_overlap d) (used_devices m) ≡ false) × (m.devices < 8) × (total (used_devices m) + device_size d ≤ room)
unfolding device_number device_order
device-taken m room d e =
    let t = passed (device_order m room d) e in
    (ltb-false 65535 d.end t.0, t.1.0, leb-false 8 m.devices t.1.1.0, ltb-false room (total (used_devices m) + device_size d) t.1.1.1.0)

-- ---- one entry more

overlap-swap : (x y : Region) → regions_overlap x y ≡ regions_overlap y x
unfolding regions_overlap
overlap-swap x y = or_comm (region_covers x.start y) (region_covers y.start x)

meet-swap : (x y : Device) → devices_overlap x y ≡ devices_overlap y x
unfolding devices_overlap
meet-swap x y = and_comm (leb x.start y.end) (leb y.start x.end)

total-more : (l : List Device) (d : Device) → total (l ++ (d ∷ [])) ≡ total l + device_size d
unfolding total
total-more [] d = omega arith
total-more (x ∷ rest) d = let h = total-more rest d in omega arith

-- ---- a valid map with a region more

module _ (m : Map) (e : length m.region ≡ 8) (w : valid_regions m ≡ true) (r : Region) (a : eqb (region_number m r) 0 ≡ true) where
  with-region : valid_regions (with_region m r) ≡ true
  unfolding valid_regions with_region used_regions spare_regions region_in_range
  with-region =
      let t = region-taken m r a in
      let n = m.regions in
      let l = m.region in
      let spare = any region_is_set (drop n l) in
      let right = sound region_in_range regions_overlap (take n l) in
      let h : n < length l = rw e t.2 in
      let k : n + 1 ≤ 8 = omega arith in
      rw (le-leb (n + 1) 8 k, spare-fewer l n r h region_is_set (not-true spare (second (leb n 8) (not spare) right w)), used-more l n r h)
      (sound_more region_in_range regions_overlap overlap-swap (take n l) r (third (leb n 8) (not spare) right w) (le-leb (r.start + r.len) 65535 t.0) t.1)

module _ (m : Map) (e : length m.device ≡ 8) (w : valid_devices m ≡ true) (room : ℕ) (d : Device) (f : d.start ≤ d.end) (a : eqb (device_number m room d) 0 ≡ true) where
  with-device : valid_devices (with_device m d) ≡ true
  unfolding valid_devices with_device used_devices spare_devices device_in_range
  with-device =
      let t = device-taken m room d a in
      let n = m.devices in
      let l = m.device in
      let spare = any device_is_set (drop n l) in
      let right = sound device_in_range devices_overlap (take n l) in
      let h : n < length l = rw e t.2 in
      let k : n + 1 ≤ 8 = omega arith in
      rw (le-leb (n + 1) 8 k, spare-fewer l n d h device_is_set (not-true spare (second (leb n 8) (not spare) right w)), used-more l n d h)
      (sound_more device_in_range devices_overlap meet-swap (take n l) d (third (leb n 8) (not spare) right w) (rw (le-leb d.end 65535 t.0, le-leb d.start d.end f)) t.1)

  with-room : total (used_devices (with_device m d)) ≤ room
  unfolding with_device used_devices
  with-room =
      let t = device-taken m room d a in
      let h : m.devices < length m.device = rw e t.2 in
      rw (used-more m.device m.devices d h, total-more (take m.devices m.device) d) t.3

-- ---- the other table stays

module _ (m : Map) (r : Region) where
  devices-kept : valid_devices (with_region m r) ≡ valid_devices m
  unfolding valid_devices with_region used_devices spare_devices
  devices-kept = refl

  room-kept : total (used_devices (with_region m r)) ≡ total (used_devices m)
  unfolding with_region used_devices
  room-kept = refl

regions-kept : (m : Map) (d : Device) → valid_regions (with_device m d) ≡ valid_regions m
unfolding valid_regions with_device used_regions spare_regions
regions-kept m d = refl

-- ---- protect, and a new device

valid-made : (m : Map) (dev : List ℕ) → valid_regions m ≡ true → valid_devices m ≡ true → total (used_devices m) ≤ length dev → valid m dev ≡ true
unfolding valid
valid-made m dev a b h = rw (a, b, le-leb (total (used_devices m)) (length dev) h)

module _ (m : Map) (e : Eight m) where
  pub eight-region : (r : Region) → Eight (with_region m r)
  unfolding with_region
  eight-region r = record { regions = rw length-set e.regions; devices = e.devices }

  pub eight-device : (d : Device) → Eight (with_device m d)
  unfolding with_device
  eight-device d = record { regions = e.regions; devices = rw length-set e.devices }

  module _ (dev : List ℕ) (v : valid m dev ≡ true) where
    -- protect keeps a valid map valid
    pub region-kept : (r : Region) → eqb (region_number m r) 0 ≡ true → valid (with_region m r) dev ≡ true
    region-kept r a = valid-made (with_region m r) dev (with-region m e.regions (valid-regions m dev v) r a) (devices-kept m r ∙ valid-devices m dev v) (rw (room-kept m r) (valid-room m dev v))

    -- and so does a new device
    pub device-kept : (d : Device) → d.start ≤ d.end → eqb (device_number m (length dev) d) 0 ≡ true → valid (with_device m d) dev ≡ true
    device-kept d f a = valid-made (with_device m d) dev (regions-kept m d ∙ valid-regions m dev v) (with-device m e.devices (valid-devices m dev v) (length dev) d f a) (with-room m e.devices (valid-devices m dev v) (length dev) d f a)
