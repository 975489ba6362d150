-- What the crates above may use of places and of a valid map, without opening the definitions (KeptLaws.antt has the rest). Assumes nothing.
use mathlib.Core.Path.{◌≡◌, refl, sym, ap, ◌∙◌}
use mathlib.Core.Bool.{Bool, true, false, not, ◌&&◌, ◌||◌}
use mathlib.Core.List.{List}
use Prim.Native.Nat.{ℕ, ◌+◌, ◌-◌, ◌≤◌, ◌<◌}
use native.Mathlib.Omega.{arith}
use lib.Dec.{ltb, leb}
use lib.ListN.{length, get_or, take}
use borrow.Author.Tests.{leb-true, ltb-true, le-leb, lt-ltb, le-ltb, lt-leb, not-true}
use Rattle.base.specs.Choice.{cond}
use Rattle.map.specs.Tables.{any, sound}
use Rattle.map.specs.Regions.{regions_overlap, region_in_range, region_is_set, used_regions, spare_regions, protected}
use Rattle.map.specs.Devices.{devices_overlap, device_in_range, device_is_set, used_devices, spare_devices, covered, total}
use Rattle.map.specs.Places.{addressable, mapped, succeeds, in_linear, place_from, place, guard, target, somewhere, linear_byte, linear_word}
use Rattle.map.specs.Valid.{valid_regions, valid_devices, valid}
use Rattle.map.specs.Entries.{device, empty_map, protect_order, region_number}
use Rattle.map.specs.declared.Region.{Region}
use Rattle.map.specs.declared.Map.{Map}
use Rattle.map.specs.declared.Place.{Place}
use Rattle.map.specs.declared.Place.TheVariants.{Linear, Bank, Nowhere}
use Rattle.base.proofs.Tests.{and_left, and_right, first, second, third}
use Rattle.map.proofs.PlaceLaws.{SameByte, Within, from-within, from-linear, from_one, from-covered, from-uncovered, from-index}

-- ---- places

-- which places are somewhere
pub linear-somewhere : (i : ℕ) → somewhere (Linear i) ≡ true
unfolding somewhere
linear-somewhere i = refl

pub bank-somewhere : (n o i : ℕ) → somewhere (Bank n o i) ≡ true
unfolding somewhere
bank-somewhere n o i = refl

pub nowhere-not : somewhere Nowhere ≡ false
unfolding somewhere
nowhere-not = refl

-- a linear byte is below the memory's length, and is found there
module _ (m : Map) (mem a : ℕ) (e : linear_byte m mem a ≡ true) where
  linear-byte-below : a < addressable mem
  unfolding linear_byte
  linear-byte-below = ltb-true a (addressable mem) (and_left (ltb a (addressable mem)) (not (covered m a)) e)

  linear-byte-place : (dev : ℕ) → place m mem dev a ≡ Linear a
  unfolding linear_byte place in_linear
  linear-byte-place dev =
      let f = not-true (covered m a) (and_right (ltb a (addressable mem)) (not (covered m a)) e) in
      from-uncovered mem dev (used_devices m) 0 0 a f ∙ rw (lt-ltb a (addressable mem) linear-byte-below)

module _ (m : Map) (mem dev : ℕ) where
  -- a place is within the bytes that are lent
  pub place-within : (a : ℕ) → Within (place m mem dev a) mem dev
  unfolding place
  place-within a = from-within mem dev (used_devices m) 0 0 a

  -- and so is where a store goes
  pub target-within : (a : ℕ) → Within (target m mem dev a) mem dev
  unfolding target guard
  target-within a = go (protected m a) (place m mem dev a) (place-within a)
    where
      go : (t : Bool) (p : Place) → Within p mem dev → Within (guard t p) mem dev
      go true (Linear i) w = tt
      go false (Linear i) w = w
      go t (Bank n o i) w = w
      go t Nowhere w = tt

  -- two addresses with one byte are one address
  pub place-one : (a b : ℕ) → SameByte (place m mem dev a) (place m mem dev b) → a ≡ b
  unfolding place
  place-one a b = go (place_from (used_devices m) 0 0 mem dev a) (place_from (used_devices m) 0 0 mem dev b) refl refl
    where
      go : (p q : Place) → place_from (used_devices m) 0 0 mem dev a ≡ p → place_from (used_devices m) 0 0 mem dev b ≡ q → SameByte p q → a ≡ b
      go (Linear i) (Linear j) e f h = from-linear mem dev (used_devices m) 0 0 a i e ∙ h ∙ sym (from-linear mem dev (used_devices m) 0 0 b j f)
      go (Linear i) (Bank n o j) e f h = absurd h
      go (Linear i) Nowhere e f h = absurd h
      go (Bank n o i) (Linear j) e f h = absurd h
      go (Bank n o i) (Bank k q j) e f h = from_one mem dev (used_devices m) 0 0 a b n o k q j (e ∙ ap (Bank n o) h) f
      go (Bank n o i) Nowhere e f h = absurd h
      go Nowhere q e f h = absurd h

  -- a device's bytes are the next of the device buffer: its byte at an offset is past all bytes of the devices before it
  pub place-index : (a k q i : ℕ) → place m mem dev a ≡ Bank k q i → i ≡ total (take k (used_devices m)) + q
  unfolding place
  place-index a k q i e =
      let f = from-index mem dev (used_devices m) 0 0 a k q i e in
      let z : k - 0 ≡ k = omega arith in
      let g : i ≡ 0 + total (take k (used_devices m)) + q = rw z at f.1 in
      omega arith

  -- and the offset is that from the start of the device with that number
  pub place-offset : (a k q i : ℕ) → place m mem dev a ≡ Bank k q i → q + (get_or (used_devices m) k (device 0 0)).start ≡ a
  unfolding place
  place-offset a k q i e =
      let f = from-index mem dev (used_devices m) 0 0 a k q i e in
      let z : k - 0 ≡ k = omega arith in
      rw z at f.2

  -- a store that has a place to go to goes where the byte is
  pub target-place : (a : ℕ) → somewhere (target m mem dev a) ≡ true → target m mem dev a ≡ place m mem dev a
  unfolding target guard somewhere
  target-place a = go (protected m a) (place m mem dev a)
    where
      go : (t : Bool) (p : Place) → somewhere (guard t p) ≡ true → guard t p ≡ p
      go true (Linear i) e = absurd (let z : ◌≡◌ {A = ℕ} 0 1 = cc in omega arith)
      go false (Linear i) e = refl
      go t (Bank n o i) e = refl
      go t Nowhere e = refl

-- a word of two linear bytes: both have an address, are below the memory's length, and are found there
module _ (m : Map) (mem a : ℕ) (e : linear_word m mem a ≡ true) where
  linear-far : a + 1 < addressable mem
  unfolding linear_word
  linear-far = linear-byte-below m mem (a + 1) (and_right (linear_byte m mem a) (linear_byte m mem (a + 1)) e)

  pub linear-second : a + 1 ≤ 65535
  linear-second = omega (arith, linear-far)

  pub linear-low : (dev : ℕ) → place m mem dev a ≡ Linear a
  unfolding linear_word
  linear-low dev = linear-byte-place m mem a (and_left (linear_byte m mem a) (linear_byte m mem (a + 1)) e) dev

  pub linear-high : (dev : ℕ) → place m mem dev (a + 1) ≡ Linear (a + 1)
  unfolding linear_word
  linear-high dev = linear-byte-place m mem (a + 1) (and_right (linear_byte m mem a) (linear_byte m mem (a + 1)) e) dev

  pub linear-below : a + 1 < mem
  linear-below = omega (arith, linear-far)

-- ---- a valid map

module _ (m : Map) (dev : List ℕ) (v : valid m dev ≡ true) where
  -- its parts
  pub valid-regions : valid_regions m ≡ true
  unfolding valid
  valid-regions = first (valid_regions m) (valid_devices m) (leb (total (used_devices m)) (length dev)) v

  pub valid-devices : valid_devices m ≡ true
  unfolding valid
  valid-devices = second (valid_regions m) (valid_devices m) (leb (total (used_devices m)) (length dev)) v

  pub valid-room : total (used_devices m) ≤ length dev
  unfolding valid
  valid-room = leb-true (total (used_devices m)) (length dev) (third (valid_regions m) (valid_devices m) (leb (total (used_devices m)) (length dev)) v)

  -- at most eight entries of each table are in use
  pub few-regions : m.regions ≤ 8
  unfolding valid_regions
  few-regions =
      let spare = not (any region_is_set (spare_regions m)) in
      leb-true m.regions 8 (first (leb m.regions 8) spare (sound region_in_range regions_overlap (used_regions m)) valid-regions)

  pub few-devices : m.devices ≤ 8
  unfolding valid_devices
  few-devices =
      let spare = not (any device_is_set (spare_devices m)) in
      leb-true m.devices 8 (first (leb m.devices 8) spare (sound device_in_range devices_overlap (used_devices m)) valid-devices)

  -- an address has its byte somewhere exactly if it is mapped
  pub mapped-rule : (mem a : ℕ) → somewhere (place m mem (length dev) a) ≡ mapped m mem a
  unfolding mapped place somewhere in_linear
  mapped-rule mem a = go (covered m a) refl
    where
      linear : (t : Bool) → somewhere (cond t (Linear a) Nowhere) ≡ t
      linear true = refl
      linear false = refl

      go : (t : Bool) → covered m a ≡ t → somewhere (place_from (used_devices m) 0 0 mem (length dev) a) ≡ (t || ltb a (addressable mem))
      go true e = let f = from-covered mem (length dev) (used_devices m) 0 0 a (omega (arith, valid-room)) e in rw f.3
      go false e = rw (from-uncovered mem (length dev) (used_devices m) 0 0 a e) (linear (ltb a (addressable mem)))

  -- a store has a place to go to exactly if it succeeds
  pub takes-rule : (mem a : ℕ) → somewhere (target m mem (length dev) a) ≡ succeeds m mem a
  unfolding succeeds mapped target place guard somewhere in_linear
  takes-rule mem a = go (covered m a) refl
    where
      linear : (t u : Bool) → somewhere (guard u (cond t (Linear a) Nowhere)) ≡ (t && not u)
      linear true true = refl
      linear true false = refl
      linear false true = refl
      linear false false = refl

      go : (t : Bool) → covered m a ≡ t → somewhere (guard (protected m a) (place_from (used_devices m) 0 0 mem (length dev) a)) ≡ (t || ((t || ltb a (addressable mem)) && not (protected m a)))
      go true e = let f = from-covered mem (length dev) (used_devices m) 0 0 a (omega (arith, valid-room)) e in rw f.3
      go false e = rw (from-uncovered mem (length dev) (used_devices m) 0 0 a e) (linear (ltb a (addressable mem)) (protected m a))

-- of the device buffer only its length matters
pub valid-length : (m : Map) (dev dev₁ : List ℕ) → length dev ≡ length dev₁ → valid m dev ≡ valid m dev₁
unfolding valid
valid-length m dev dev₁ e = rw e

-- no region and no device is valid over any buffer
pub empty-valid : (dev : List ℕ) → valid empty_map dev ≡ true
unfolding valid valid_regions valid_devices used_regions spare_regions used_devices spare_devices total any sound region_is_set device_is_set
empty-valid dev = le-leb 0 (length dev) (omega arith)

-- ---- adding a region that ends in range to a table with room: only 13 is left
pub region-last : (m : Map) (r : Region) → r.start + r.len ≤ 65535 → m.regions < 8 → region_number m r ≡ cond (any (regions_overlap r) (used_regions m)) 13 0
unfolding region_number protect_order
region-last m r h f = rw (le-ltb (65535) (r.start + r.len) h, lt-leb 8 m.regions f)
