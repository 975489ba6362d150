-- Half of an even address is below n exactly if the address is below 2n. Assumes nothing.
use mathlib.Core.Path.{◌≡◌}
use Prim.Native.Nat.{ℕ, ◌/◌, ◌%◌}
use native.Mathlib.Omega.{arith}
use lib.Dec.{ltb}
use Rattle.base.specs.Words.{doubled}
use Rattle.base.proofs.Tests.{ltb-same}

pub half_inside : (n a : ℕ) → a % 2 ≡ 0 → ltb a (doubled n) ≡ ltb (a / 2) n
half_inside n a e = ltb-same a (doubled n) (a / 2) n (λ h. omega arith) (λ h. omega arith)
