-- Devices have their bytes one after the other, so no byte answers for two addresses, and each covered address has one. Assumes nothing.
use mathlib.Core.Path.{◌≡◌, refl}
use mathlib.Core.Bool.{Bool, true, false, not, ◌&&◌, ◌||◌, and-false}
use mathlib.Core.List.{List, [], ◌∷◌}
use Prim.Native.Nat.{ℕ, suc, ◌+◌, ◌-◌, ◌≤◌, ◌<◌}
use native.Mathlib.Omega.{arith}
use lib.Dec.{ltb}
use lib.ListN.{get_or, take}
use borrow.Author.Tests.{ltb-true, lt-ltb, le-ltb}
use Rattle.base.specs.Choice.{cond}
use Rattle.map.specs.Tables.{any}
use Rattle.map.specs.Devices.{device_covers, covers_either, device_size, used_devices, total}
use Rattle.map.specs.Places.{addressable, in_linear, in_bank, place_from, linear_byte, linear_word}
use Rattle.map.specs.Entries.{device}
use Rattle.map.specs.declared.Device.{Device}
use Rattle.map.specs.declared.Map.{Map}
use Rattle.map.specs.declared.Place.{Place}
use Rattle.map.specs.declared.Place.TheVariants.{Linear, Bank, Nowhere}
use Rattle.base.proofs.Tests.{not-or}
use Rattle.map.proofs.DeviceLaws.{covers-from, covers-to, any-either}

-- the same byte of the same buffer
abbrev pub SameByte : Place → Place → Type 0
SameByte (Linear i) (Linear j) = i ≡ j
SameByte (Linear i) (Bank n o j) = ⊥
SameByte (Linear i) Nowhere = ⊥
SameByte (Bank n o i) (Linear j) = ⊥
SameByte (Bank n o i) (Bank k q j) = i ≡ j
SameByte (Bank n o i) Nowhere = ⊥
SameByte Nowhere q = ⊥

-- the index is within the bytes that are lent, and a linear one has an address
abbrev pub Within : Place → ℕ → ℕ → Type 0
Within (Linear i) mem dev = i < addressable mem
Within (Bank n o i) mem dev = i < dev
Within Nowhere mem dev = Unit {0}

-- ---- one entry

module _ (number offset base dev : ℕ) where
  bank-index : (k q i : ℕ) → in_bank number offset base dev ≡ Bank k q i → base + offset ≡ i
  unfolding in_bank
  bank-index k q i = go (ltb (base + offset) dev)
    where
      go : (t : Bool) → cond t (Bank number offset (base + offset)) Nowhere ≡ Bank k q i → base + offset ≡ i
      go true e = cc
      go false e = let z : ◌≡◌ {A = ℕ} 0 1 = cc in omega arith

  bank-number : (k q i : ℕ) → in_bank number offset base dev ≡ Bank k q i → (number ≡ k) × (offset ≡ q)
  unfolding in_bank
  bank-number k q i = go (ltb (base + offset) dev)
    where
      go : (t : Bool) → cond t (Bank number offset (base + offset)) Nowhere ≡ Bank k q i → (number ≡ k) × (offset ≡ q)
      go true e = ((cc), (cc))
      go false e = absurd (let z : ◌≡◌ {A = ℕ} 0 1 = cc in omega arith)

  bank-not-linear : (i : ℕ) → in_bank number offset base dev ≡ Linear i → ⊥
  unfolding in_bank
  bank-not-linear i = go (ltb (base + offset) dev)
    where
      go : (t : Bool) → cond t (Bank number offset (base + offset)) Nowhere ≡ Linear i → ⊥
      go true e = let z : ◌≡◌ {A = ℕ} 0 1 = cc in omega arith
      go false e = let z : ◌≡◌ {A = ℕ} 0 1 = cc in omega arith

  bank-within : (mem : ℕ) → Within (in_bank number offset base dev) mem dev
  unfolding in_bank
  bank-within mem = go (ltb (base + offset) dev) refl
    where
      go : (t : Bool) → ltb (base + offset) dev ≡ t → Within (cond t (Bank number offset (base + offset)) Nowhere) mem dev
      go true e = ltb-true (base + offset) dev e
      go false e = tt

module _ (mem a : ℕ) where
  linear-not-bank : (k q i : ℕ) → in_linear mem a ≡ Bank k q i → ⊥
  unfolding in_linear
  linear-not-bank k q i = go (ltb a (addressable mem))
    where
      go : (t : Bool) → cond t (Linear a) Nowhere ≡ Bank k q i → ⊥
      go true e = let z : ◌≡◌ {A = ℕ} 0 1 = cc in omega arith
      go false e = let z : ◌≡◌ {A = ℕ} 0 1 = cc in omega arith

  linear-index : (i : ℕ) → in_linear mem a ≡ Linear i → a ≡ i
  unfolding in_linear
  linear-index i = go (ltb a (addressable mem))
    where
      go : (t : Bool) → cond t (Linear a) Nowhere ≡ Linear i → a ≡ i
      go true e = cc
      go false e = let z : ◌≡◌ {A = ℕ} 0 1 = cc in omega arith

  linear-within : (dev : ℕ) → Within (in_linear mem a) mem dev
  unfolding in_linear
  linear-within dev = go (ltb a (addressable mem)) refl
    where
      go : (t : Bool) → ltb a (addressable mem) ≡ t → Within (cond t (Linear a) Nowhere) mem dev
      go true e = ltb-true a (addressable mem) e
      go false e = tt

-- ---- the table

module _ (mem dev : ℕ) where
  pub from-within : (l : List Device) (n base a : ℕ) → Within (place_from l n base mem dev a) mem dev
  unfolding place_from
  from-within [] n base a = linear-within mem a dev
  from-within (d ∷ rest) n base a = go (device_covers a d) (from-within rest (n + 1) (base + device_size d) a)
    where
      go : (t : Bool) → Within (place_from rest (n + 1) (base + device_size d) mem dev a) mem dev → Within (cond t (in_bank n (a - d.start) base dev) (place_from rest (n + 1) (base + device_size d) mem dev a)) mem dev
      go true r = bank-within n (a - d.start) base dev mem
      go false r = r

  -- a linear byte is at its address
  pub from-linear : (l : List Device) (n base a i : ℕ) → place_from l n base mem dev a ≡ Linear i → a ≡ i
  unfolding place_from
  from-linear [] n base a i = linear-index mem a i
  from-linear (d ∷ rest) n base a i = go (device_covers a d) (from-linear rest (n + 1) (base + device_size d) a i)
    where
      go : (t : Bool) → (place_from rest (n + 1) (base + device_size d) mem dev a ≡ Linear i → a ≡ i) → cond t (in_bank n (a - d.start) base dev) (place_from rest (n + 1) (base + device_size d) mem dev a) ≡ Linear i → a ≡ i
      go true r e = absurd (bank-not-linear n (a - d.start) base dev i e)
      go false r e = r e

  -- a device's byte is at or after where the first device's bytes start
  from-base : (l : List Device) (n base a k q i : ℕ) → place_from l n base mem dev a ≡ Bank k q i → base ≤ i
  unfolding place_from
  from-base [] n base a k q i = λ e. absurd (linear-not-bank mem a k q i e)
  from-base (d ∷ rest) n base a k q i = go (device_covers a d) (from-base rest (n + 1) (base + device_size d) a k q i)
    where
      go : (t : Bool) → (place_from rest (n + 1) (base + device_size d) mem dev a ≡ Bank k q i → base + device_size d ≤ i) → cond t (in_bank n (a - d.start) base dev) (place_from rest (n + 1) (base + device_size d) mem dev a) ≡ Bank k q i → base ≤ i
      go true r e = omega (arith, bank-index n (a - d.start) base dev k q i e)
      go false r e = omega (arith, r e)

  -- an address that a device covers is less than its size past its start
  inside : (a : ℕ) (d : Device) → device_covers a d ≡ true → (d.start ≤ a) × (a - d.start < device_size d)
  unfolding device_size
  inside a d e =
      let f = covers-from a d e in
      let g = covers-to a d e in
      (f, omega arith)

  -- one byte of the device buffer answers for one address
  pub from_one : (l : List Device) (n base a b k q k' q' i : ℕ) → place_from l n base mem dev a ≡ Bank k q i → place_from l n base mem dev b ≡ Bank k' q' i → a ≡ b
  unfolding place_from
  from_one [] n base a b k q k' q' i = λ e f. absurd (linear-not-bank mem a k q i e)
  from_one (d ∷ rest) n base a b k q k' q' i = go (device_covers a d) (device_covers b d) refl refl (from_one rest (n + 1) (base + device_size d) a b k q k' q' i)
    where
      go : (t u : Bool) → device_covers a d ≡ t → device_covers b d ≡ u → (place_from rest (n + 1) (base + device_size d) mem dev a ≡ Bank k q i → place_from rest (n + 1) (base + device_size d) mem dev b ≡ Bank k' q' i → a ≡ b) → cond t (in_bank n (a - d.start) base dev) (place_from rest (n + 1) (base + device_size d) mem dev a) ≡ Bank k q i → cond u (in_bank n (b - d.start) base dev) (place_from rest (n + 1) (base + device_size d) mem dev b) ≡ Bank k' q' i → a ≡ b
      go true true ca cb r e f = omega (arith, inside a d ca, inside b d cb, bank-index n (a - d.start) base dev k q i e, bank-index n (b - d.start) base dev k' q' i f)
      go true false ca cb r e f = omega (arith, inside a d ca, bank-index n (a - d.start) base dev k q i e, from-base rest (n + 1) (base + device_size d) b k' q' i f)
      go false true ca cb r e f = omega (arith, inside b d cb, bank-index n (b - d.start) base dev k' q' i f, from-base rest (n + 1) (base + device_size d) a k q i e)
      go false false ca cb r e f = r e f

  -- where the buffer has room for the devices, a covered address has its byte there
  pub from-covered : (l : List Device) (n base a : ℕ) → base + total l ≤ dev → any (device_covers a) l ≡ true → (k q i : ℕ) × (place_from l n base mem dev a ≡ Bank k q i)
  unfolding any total place_from in_bank
  from-covered [] n base a h = λ e. absurd (let z : ◌≡◌ {A = ℕ} 0 1 = cc in omega arith)
  from-covered (d ∷ rest) n base a h = go (device_covers a d) refl (from-covered rest (n + 1) (base + device_size d) a (omega arith))
    where
      go : (t : Bool) → device_covers a d ≡ t → (any (device_covers a) rest ≡ true → (k q i : ℕ) × (place_from rest (n + 1) (base + device_size d) mem dev a ≡ Bank k q i)) → (t || any (device_covers a) rest) ≡ true → (k q i : ℕ) × (cond t (cond (ltb (base + (a - d.start)) dev) (Bank n (a - d.start) (base + (a - d.start))) Nowhere) (place_from rest (n + 1) (base + device_size d) mem dev a) ≡ Bank k q i)
      go true c r e = (n, a - d.start, base + (a - d.start), rw (lt-ltb (base + (a - d.start)) dev (omega (arith, inside a d c))))
      go false c r e = r e

  -- an address that no device covers is linear memory's
  pub from-uncovered : (l : List Device) (n base a : ℕ) → any (device_covers a) l ≡ false → place_from l n base mem dev a ≡ in_linear mem a
  unfolding any place_from
  from-uncovered [] n base a = λ e. refl
  from-uncovered (d ∷ rest) n base a = go (device_covers a d) (from-uncovered rest (n + 1) (base + device_size d) a)
    where
      go : (t : Bool) → (any (device_covers a) rest ≡ false → place_from rest (n + 1) (base + device_size d) mem dev a ≡ in_linear mem a) → (t || any (device_covers a) rest) ≡ false → cond t (in_bank n (a - d.start) base dev) (place_from rest (n + 1) (base + device_size d) mem dev a) ≡ in_linear mem a
      go true r e = absurd (let z : ◌≡◌ {A = ℕ} 0 1 = cc in omega arith)
      go false r e = r e

  -- a device's byte is at its offset past all bytes of the devices before it, and the offset is from that device's start
  pub from-index : (l : List Device) (n base a k q i : ℕ) → place_from l n base mem dev a ≡ Bank k q i → (n ≤ k) × (i ≡ base + total (take (k - n) l) + q) × (q + (get_or l (k - n) (device 0 0)).start ≡ a)
  unfolding place_from total
  from-index [] n base a k q i = λ e. absurd (linear-not-bank mem a k q i e)
  from-index (d ∷ rest) n base a k q i = go (device_covers a d) refl (from-index rest (n + 1) (base + device_size d) a k q i)
    where
      go : (t : Bool) → device_covers a d ≡ t → (place_from rest (n + 1) (base + device_size d) mem dev a ≡ Bank k q i → (n + 1 ≤ k) × (i ≡ base + device_size d + total (take (k - (n + 1)) rest) + q) × (q + (get_or rest (k - (n + 1)) (device 0 0)).start ≡ a)) → cond t (in_bank n (a - d.start) base dev) (place_from rest (n + 1) (base + device_size d) mem dev a) ≡ Bank k q i → (n ≤ k) × (i ≡ base + total (take (k - n) (d ∷ rest)) + q) × (q + (get_or (d ∷ rest) (k - n) (device 0 0)).start ≡ a)
      go true c r e =
          let f = bank-number n (a - d.start) base dev k q i e in
          let g = bank-index n (a - d.start) base dev k q i e in
          let s = inside a d c in
          let z : k - n ≡ 0 = omega arith in
          (omega arith, rw z (omega arith), rw z (omega arith))
      go false c r e =
          let f = r e in
          let z : k - n ≡ suc (k - (n + 1)) = omega arith in
          (omega arith, rw z (omega arith), rw z f.2)

-- ---- a word of two linear bytes

module _ (m : Map) (mem a : ℕ) where
  -- the second one is past the memory's length, or past the last address
  pub word-past : addressable mem ≤ a + 1 → linear_word m mem a ≡ false
  unfolding linear_word linear_byte
  word-past h = rw (le-ltb (a + 1) (addressable mem) h) (and-false (ltb a (addressable mem) && not (any (device_covers a) (used_devices m))))

  -- where both are there, the devices decide
  pub word-by-devices : a + 1 < addressable mem → not (any (covers_either a (a + 1)) (used_devices m)) ≡ linear_word m mem a
  unfolding linear_word linear_byte
  word-by-devices k =
      rw (any-either a (a + 1) (used_devices m), lt-ltb a (addressable mem) (omega arith), lt-ltb (a + 1) (addressable mem) k)
      (not-or (any (device_covers a) (used_devices m)) (any (device_covers (a + 1)) (used_devices m)))
