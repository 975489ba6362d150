-- Where there is room, an accepted step and one step-back lead to where they began, since the slot that the step fills is the
-- one that is read back; and there are such steps, since a Noop is one. Assumes nothing.
use Prim.Native.Nat.{ℕ, ◌+◌, ◌-◌, ◌<◌, ◌≤◌, min}
use mathlib.Core.Path.{◌≡◌, refl, ap, ◌∙◌, subst}
use mathlib.Core.Bool.{Bool, true, false}
use lib.ListN.{length}
use native.Mathlib.Omega.{arith}
use Rattle.std.specs.Prelude.{Some}
use Rattle.base.specs.Choice.{cond}
use Rattle.base.specs.Told.{is}
use Rattle.base.proofs.AddressLaws.{reached-at}
use Rattle.instruction.specs.Decode.{decode}
use Rattle.instruction.specs.declared.Instruction.TheVariants.{Noop}
use Rattle.instruction.specs.declared.Register.TheVariants.{PC}
use Rattle.machine.specs.declared.StepAnswer.TheVariants.{Continue, Debug}
use Rattle.machine.specs.Registers.{get, flag}
use Rattle.machine.specs.Step as machine
use Rattle.machine.proofs.Laws.{step-noop}
use Rattle.memory.specs.Words.{read_word}
use Rattle.records.specs.Slots.{room}
use Rattle.records.proofs.Laws.{filled-own}
use Rattle.records.proofs.Ring.{before-after}
use Rattle.journal.specs.States.{Whole, whole, state, valid_whole}
use Rattle.journal.specs.Step.{is_accepted, step}
use Rattle.journal.specs.Back.{backed, newest, undone, step_back}
use Rattle.journal.proofs.StateLaws.{parts, next-slot}
use Rattle.journal.proofs.StepLaws.{own_record, with_record, own-eight, filled-room, step-answer, step-recorded, step-valid}
use Rattle.journal.proofs.UndoLaws.{record-undoes}
use Rattle.journal.proofs.BackLaws.{fitting, back-undone}

-- w once a step of it is taken back: only the journal's bytes differ, and a full journal holds one record less
abbrev pub returned : Whole → Whole
returned w =
    let d = room w.journal in
    whole (state w.state.machine w.state.next (min (w.state.held + 1) d - 1)) w.bytes (with_record w).journal

module _ (w : Whole) (l : length w.state.machine.registers.value ≡ 8) (h : valid_whole w ≡ true)
    (n : 0 < room w.journal) where
  slot : w.state.next < room w.journal
  slot = next-slot w h n

  same-room : room (with_record w).journal ≡ room w.journal
  same-room = filled-room w l h n

  -- its record is the newest
  own-newest : newest (with_record w) ≡ own_record w
  unfolding newest
  own-newest =
      rw (same-room, before-after (room w.journal) w.state.next slot)
      (filled-own w.journal w.state.next (own_record w) (own-eight w l) slot)

  own-undone : undone (with_record w) (own_record w) ≡ returned w
  unfolding undone
  own-undone =
      let u = record-undoes w h in
      rw (u.machine, u.bytes, same-room, before-after (room w.journal) w.state.next slot)

  pub step-and-back : is_accepted (step w).answer ≡ true → step_back (step w).whole ≡ backed 0 (returned w)
  step-and-back e =
      let q : (step w).whole ≡ with_record w = step-recorded w e (λ z. omega (arith, n, z)) in
      let v : valid_whole (with_record w) ≡ true = subst (λ (x : Whole). valid_whole x ≡ true) q (step-valid w l h) in
      let f : fitting (with_record w) (newest (with_record w)) ≡ true = rw own-newest (record-undoes w h).fitting in
      rw q
      (back-undone (with_record w) v (λ z. omega (arith, n, z)) f
      ∙ ap (λ (x : Whole). backed 0 x) (ap (undone (with_record w)) own-newest ∙ own-undone))

-- ---- a Noop

module _ (w : Whole) (x : ℕ) (h : valid_whole w ≡ true) (f : flag w.state.machine.registers 0 ≡ false)
    (r : read_word w.state.machine.map w.bytes (get w.state.machine.registers PC) ≡ is (Some x))
    (d : decode x ≡ is Noop)
    (p : get w.state.machine.registers PC + 2 ≤ 65535) where
  pub noop-accepted : is_accepted (step w).answer ≡ true
  unfolding is_accepted
  noop-accepted =
      let m = w.state.machine in
      let pc = get m.registers PC + 2 in
      let e = step-noop m w.bytes x pc (parts w h).tables f r d (reached-at pc p) in
      ap is_accepted (step-answer w h ∙ ap (λ (a : machine.After). a.answer) e) ∙ go m.mode.debug
    where
      go : (t : Bool) → is_accepted (is (cond t Debug Continue)) ≡ true
      go true = refl
      go false = refl

  -- and nothing held is nothing held again
  pub noop-and-back : length w.state.machine.registers.value ≡ 8 → 0 < room w.journal → w.state.held ≡ 0
      → step_back (step w).whole ≡ backed 0 (whole w.state w.bytes (with_record w).journal)
  noop-and-back l n z =
      let e : min (w.state.held + 1) (room w.journal) - 1 ≡ w.state.held = omega (arith, n, z) in
      step-and-back w l h n noop-accepted ∙ rw e
