-- What it says of an address, or of two, that a device covers it. Assumes nothing.
use mathlib.Core.Path.{◌≡◌, refl}
use mathlib.Core.Bool.{Bool, true, false, ◌||◌, and-false, or-true}
use mathlib.Core.List.{List, [], ◌∷◌}
use Prim.Native.Nat.{ℕ, ◌+◌, ◌<◌, ◌≤◌}
use native.Mathlib.Omega.{arith}
use lib.Dec.{leb, ltb}
use borrow.Author.Tests.{leb-true, leb-false, le-leb, lt-leb, ltb-true, lt-ltb, le-ltb}
use Rattle.base.proofs.Tests.{and_left, and_right, same, or-pairs}
use Rattle.map.specs.Tables.{any}
use Rattle.map.specs.Devices.{device_covers, covers_either}
use Rattle.map.specs.declared.Device.{Device}

module _ (a : ℕ) (d : Device) where
  pub covers-from : device_covers a d ≡ true → d.start ≤ a
  unfolding device_covers
  covers-from e = leb-true d.start a (and_left (leb d.start a) (ltb a d.end) e)

  pub covers-to : device_covers a d ≡ true → a < d.end
  unfolding device_covers
  covers-to e = ltb-true a d.end (and_right (leb d.start a) (ltb a d.end) e)

  covered : d.start ≤ a → a < d.end → device_covers a d ≡ true
  unfolding device_covers
  covered h k = rw (le-leb d.start a h, lt-ltb a d.end k)

-- ---- an address and the next one

module _ (a b : ℕ) (d : Device) (n : b ≡ a + 1) where
  -- a device that starts past both, or ends before them, covers none of them
  pub either-before : b < d.start → covers_either a b d ≡ false
  unfolding covers_either device_covers
  either-before h = rw (lt-leb d.start a (omega arith), lt-leb d.start b h)

  pub either-after : d.end ≤ a → covers_either a b d ≡ false
  unfolding covers_either device_covers
  either-after h = rw (le-ltb a d.end h, le-ltb b d.end (omega arith), and-false (leb d.start a), and-false (leb d.start b))

  -- any other covers one of them, if it covers anything
  pub either-else : d.start ≤ b → a < d.end → ltb d.start d.end ≡ covers_either a b d
  unfolding covers_either
  either-else h k =
      same (ltb d.start d.end) (device_covers a d || device_covers b d) (there (leb d.start a) refl) (back (device_covers a d) refl)
    where
      there : (t : Bool) → leb d.start a ≡ t → ltb d.start d.end ≡ true → (device_covers a d || device_covers b d) ≡ true
      there true f e = rw (covered a d (leb-true d.start a f) k)
      there false f e = rw (covered b d h (omega (arith, leb-false d.start a f, ltb-true d.start d.end e))) (or-true (device_covers a d))

      back : (t : Bool) → device_covers a d ≡ t → (t || device_covers b d) ≡ true → ltb d.start d.end ≡ true
      back true f e = lt-ltb d.start d.end (omega (arith, covers-from a d f, covers-to a d f))
      back false f e = lt-ltb d.start d.end (omega (arith, covers-from b d e, covers-to b d e))

-- a device covers one of two addresses where one covers the first or one the second
pub any-either : (a b : ℕ) (l : List Device) → any (covers_either a b) l ≡ (any (device_covers a) l || any (device_covers b) l)
unfolding any covers_either
any-either a b [] = refl
any-either a b (d ∷ rest) =
    rw (any-either a b rest) (or-pairs (device_covers a d) (device_covers b d) (any (device_covers a) rest) (any (device_covers b) rest))
