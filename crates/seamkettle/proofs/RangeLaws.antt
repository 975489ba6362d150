-- What becomes of a range of protect and of a device is that of the numbers as the host has them. Assumes nothing.
use Prim.Native.Nat.{ℕ, ◌+◌}
use mathlib.Core.Path.{◌≡◌}
use mathlib.Core.List.{List}
use lib.Dec.{ltb}
use native.Mathlib.Omega.{arith}
use Rattle.base.specs.Choice.{cond}
use Rattle.journal.specs.declared.State.{State}
use Rattle.host.specs.Host.{protect_number, protect_state, register_number, register_state}
use Rattle.host.proofs.Far.{protect-far, register-far}
use Rattle.numbers.proofs.RangeLaws.{narrowed}

module _ (start len : ℕ) {a n : ℕ} (p : a ≡ cond (ltb 65535 (start + len)) 65535 start) (q : n ≡ cond (ltb 65535 (start + len)) 65535 len) (s : State) (dev journal : List ℕ) where
  pub protect-narrow : (protect_number s dev journal a n ≡ protect_number s dev journal start len)
      × (protect_state s dev journal a n ≡ protect_state s dev journal start len)
  protect-narrow = (
    narrowed start len p q (protect_number s dev journal) (λ h. (protect-far s dev journal 65535 65535 start len (omega arith) h).0),
    narrowed start len p q (protect_state s dev journal) (λ h. (protect-far s dev journal 65535 65535 start len (omega arith) h).1),
  )

  pub register-narrow : (register_number s dev journal a n ≡ register_number s dev journal start len)
      × (register_state s dev journal a n ≡ register_state s dev journal start len)
  register-narrow = (
    narrowed start len p q (register_number s dev journal) (λ h. (register-far s dev journal 65535 65535 start len (omega arith) h).0),
    narrowed start len p q (register_state s dev journal) (λ h. (register-far s dev journal 65535 65535 start len (omega arith) h).1),
  )
