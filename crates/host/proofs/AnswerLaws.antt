-- The state after an entry of a valid state, by the answer of the crate below: its number is 0 where it accepts, and another where it
-- refuses. Assumes nothing.
use Prim.Native.Nat.{ℕ}
use mathlib.Core.Path.{◌≡◌, sym, ◌∙◌}
use lib.Dec.{eqb}
use borrow.Author.Tests.{ne_eqb}
use Rattle.base.specs.Choice.{cond}
use Rattle.base.specs.Numbers.{number_of}
use Rattle.base.specs.declared.refusals.Refusal.{Refusal}
use Rattle.base.proofs.Laws.{not_accepted}
use Rattle.machine.specs.declared.Machine.{Machine}
use Rattle.journal.specs.States.{state}
use Rattle.journal.specs.declared.State.{State}
use Rattle.host.specs.Host.{settled}

module _ {A : Type 0} (s : State) (f : A → Machine) (x y : A) (n k : ℕ) (same : n ≡ k) (m : Machine) (made : m ≡ f (cond (eqb n 0) x y)) where
  -- what is accepted is there, with an empty journal
  pub settled_ok : 0 ≡ n → state m 0 0 ≡ settled s k (f x)
  unfolding settled
  settled_ok h = rw (made, ← same, ← h)

  -- a refusal leaves the state
  pub settled_err : f y ≡ s.machine → (r : Refusal) → number_of r ≡ n → state m s.next s.held ≡ settled s k (f x)
  unfolding settled
  settled_err kept r h = rw (made, ← same, ne_eqb n 0 (λ z. not_accepted r (sym (h ∙ z))), kept)
