-- What step-back comes to, from the record that the code has read and what its kind uses. Assumes nothing.
use Prim.Native.Nat.{ℕ, zero, suc, ◌-◌}
use Rattle.std.specs.Prelude.{Option, None}
use mathlib.Core.Path.{◌≡◌, refl, sym, ◌∙◌}
use mathlib.Core.Bool.{true, false}
use Rattle.records.specs.Slots.{room, slot_before}
use Rattle.records.specs.declared.Record.{Record}
use Rattle.journal.specs.States.{Whole, whole, state, valid_whole}
use Rattle.journal.specs.Back.{backed, used_by, fits, restored, newest, with, undone, step_back}
use Rattle.journal.specs.declared.Used.{Used}
use Rattle.journal.proofs.BackLaws.{back-unfit, back-undone}

-- a kind that is none of the three
pub kind-unknown : (n : ℕ) → (n ≡ 0 → ⊥) → (n ≡ 1 → ⊥) → (n ≡ 2 → ⊥) → used_by n ≡ None
unfolding used_by
kind-unknown zero a b c = absurd (a refl)
kind-unknown (suc zero) a b c = absurd (b refl)
kind-unknown (suc (suc zero)) a b c = absurd (c refl)
kind-unknown (suc (suc (suc n))) a b c = refl

module _ (w : Whole) (v : valid_whole w ≡ true) (h : w.state.held ≡ 0 → ⊥) (r : Record) (u : Option Used) (e : r ≡ newest w) (k : u ≡ used_by r.kind) where
  pub back-bad : fits w.state.machine.map w.bytes r u ≡ false → step_back w ≡ backed 11 w
  back-bad f = back-unfit w v h (rw (← e, ← k) f)

  pub back_done : fits w.state.machine.map w.bytes r u ≡ true
      → step_back w
      ≡ backed 0
      (whole (state (with w.state.machine r) (slot_before (room w.journal) w.state.next) (w.state.held - 1))
      (restored w.state.machine.map w.bytes r u) w.journal)
  unfolding undone
  back_done f = back-undone w v h (rw (← e, ← k) f) ∙ rw (← e, ← k)

-- a record whose kind is none of the three
pub back-unknown : (w : Whole) → valid_whole w ≡ true → (w.state.held ≡ 0 → ⊥) → (r : Record) → r ≡ newest w → used_by r.kind ≡ None → step_back w ≡ backed 11 w
unfolding fits
back-unknown w v h r e k = back-bad w v h r None e (sym k) refl
