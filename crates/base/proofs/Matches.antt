-- The last arm of a `match` on a number whose keys are 0 to k - 1: the number is k or more. Assumes nothing.
use Prim.Native.Nat.{ℕ, zero, suc, ◌≤◌, zero-le}
use mathlib.Core.Path.{◌≡◌, sym}
use mathlib.Core.List.{List}
use lib.Arith.{lt_of_le-ne}
use lib.ListN.{length, get_or, get_or-eq_default}

-- what `c.match.rest` is, at the keys 0 to k - 1
abbrev pub None : ℕ → ℕ → Type 0
None zero n = Unit {0}
None (suc k) n = None k n × (n ≡ k → ⊥)

pub past : (k : ℕ) {n : ℕ} → None k n → k ≤ n
past zero t = zero-le
past (suc k) t = lt_of_le-ne (past k t.0) (λ e. t.1 (sym e))

-- the default of a table that has the keys' values is the value of such a number
pub default : {A : Type 0} (xs : List A) (d : A) (n : ℕ) → None (length xs) n → d ≡ get_or xs n d
default xs d n t = sym (get_or-eq_default xs d {n = n} (past (length xs) t))
