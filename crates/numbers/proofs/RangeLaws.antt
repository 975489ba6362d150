-- A range that ends past 65,535 may stand for another one that does, where both come to the same; one that does not stays as it is.
-- Assumes nothing.
use Prim.Native.Nat.{ℕ, ◌+◌, ◌<◌}
use mathlib.Core.Path.{◌≡◌, refl}
use mathlib.Core.Bool.{Bool, true, false}
use lib.Dec.{ltb}
use borrow.Author.Tests.{ltb-true}
use Rattle.base.specs.Choice.{cond}

module _ (start len : ℕ) {a n : ℕ} (p : a ≡ cond (ltb 65535 (start + len)) 65535 start) (q : n ≡ cond (ltb 65535 (start + len)) 65535 len) where
  pub narrowed : {A : Type 0} (f : ℕ → ℕ → A) → (65535 < start + len → f 65535 65535 ≡ f start len) → f a n ≡ f start len
  narrowed {A} f far = rw (p, q) (go (ltb 65535 (start + len)) refl) where
    go : (t : Bool) → ltb 65535 (start + len) ≡ t → f (cond t 65535 start) (cond t 65535 len) ≡ f start len
    go true e = far (ltb-true 65535 (start + len) e)
    go false e = refl
