-- When a sum of an address is an address: exactly up to 65,535. Assumes nothing.
use mathlib.Core.Path.{◌≡◌}
use mathlib.Core.Bool.{Bool, true, false}
use Prim.Native.Nat.{ℕ, ◌<◌, ◌≤◌}
use native.Mathlib.Omega.{arith}
use lib.Dec.{leb}
use borrow.Author.Tests.{le-leb, lt-leb}
use Rattle.base.specs.Choice.{cond}
use Rattle.base.specs.Addresses.{reached}
use Rattle.std.specs.Prelude.{Option, Some, None, SomeIff}

pub reached-at : (n : ℕ) → n ≤ 65535 → reached n ≡ Some n
unfolding reached
reached-at n h = rw (le-leb n 65535 h)

pub reached-past : (n : ℕ) → 65535 < n → reached n ≡ None
unfolding reached
reached-past n h = rw (lt-leb n 65535 h)

-- the address reached is the sum
pub reached-is : (n b : ℕ) → reached n ≡ Some b → b ≡ n
unfolding reached
reached-is n b = go (leb n 65535)
  where
    go : (t : Bool) → cond t (Some n) None ≡ Some b → b ≡ n
    go true e = cc
    go false e = let z : ◌≡◌ {A = ℕ} 0 1 = cc in omega arith

-- a checked sum is the definition's
pub checked : (o : Option ℕ) (n : ℕ) → SomeIff o (n < 65536) n → o ≡ reached n
unfolding reached
checked None n h = rw (lt-leb n 65535 (omega (arith, h)))
checked (Some b) n h = rw (h.1, le-leb n 65535 (omega (arith, h.0)))
