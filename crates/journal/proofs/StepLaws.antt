-- What everyone above may use of the recording step: it is the machine's own step, with one record more where it is accepted,
-- so what the machine and the ring keep is kept. Assumes nothing.
use Prim.Native.Nat.{ℕ, ◌+◌, ◌<◌, ◌≤◌, min}
use mathlib.Core.Path.{◌≡◌, refl, sym, ap, ◌∙◌, subst⁻¹}
use mathlib.Core.Bool.{Bool, true, false}
use lib.Dec.{eqb}
use lib.ListN.{length}
use borrow.Author.Tests.{eqb-true, eqb-false, eq-eqb, ne_eqb}
use native.Mathlib.Omega.{arith}
use Rattle.base.specs.Told.{Told, is, no}
use Rattle.base.proofs.Tests.{clash}
use Rattle.base.proofs.ToldLaws.{Numbered}
use Rattle.machine.specs.Plan.{plan}
use Rattle.machine.specs.Step as machine
use Rattle.machine.specs.States as machine-states
use Rattle.machine.specs.declared.Registers.{Registers}
use Rattle.machine.specs.declared.StepAnswer.{StepAnswer}
use Rattle.machine.specs.declared.StepAnswer.TheVariants.{Continue, Debug, Stop}
use Rattle.machine.proofs.Laws as machine-laws
use Rattle.memory.specs.Bytes.{Lent}
use Rattle.memory.specs.declared.Changes.{Changes}
use Rattle.memory.specs.declared.Changes.TheVariants.{Nothing, One, Two}
use Rattle.records.specs.Slots.{room, filled, slot_after}
use Rattle.records.specs.declared.Record.{Record}
use Rattle.records.proofs.Laws.{room-filled}
use Rattle.records.proofs.Ring.{after-lt}
use Rattle.journal.specs.States.{Whole, whole, state, valid_whole}
use Rattle.journal.specs.Step.{Result, result_of, is_accepted, record_of, advanced, noted, recorded, moved, taken, step}
use Rattle.journal.proofs.StateLaws.{Parts, parts, together, next-slot}

-- a step of the machine alone, and the record of it
abbrev pub own : Whole → machine.After
own w = machine.step w.state.machine w.bytes

abbrev pub own_record : Whole → Record
own_record w = record_of w.state.machine.registers w.bytes (plan w.state.machine w.bytes).changes

-- all there is after a step with a record, in a journal with room
abbrev pub with_record : Whole → Whole
with_record w =
    let d = room w.journal in
    whole (state (own w).machine (slot_after d w.state.next) (min (w.state.held + 1) d)) (own w).bytes
    (filled w.journal w.state.next (own_record w))

-- a record has as many registers as the machine
pub record-registers : (s : Registers) (b : Lent) (c : Changes) → (record_of s b c).registers ≡ s.value
unfolding record_of
record-registers s b Nothing = refl
record-registers s b (One x) = refl
record-registers s b (Two x y) = refl

module _ (w : Whole) where
  -- ---- a step, valid state or not

  pub invalid-step : valid_whole w ≡ false → step w ≡ result_of (no 1) w
  unfolding step
  invalid-step h = rw h

  pub valid-step : valid_whole w ≡ true → step w ≡ taken w (own w)
  unfolding step
  valid-step h = rw h

  -- its answer is the machine's
  pub step-answer : valid_whole w ≡ true → (step w).answer ≡ (own w).answer
  unfolding taken
  step-answer h = ap (λ (x : Result). x.answer) (valid-step h)

  -- only a valid state's is accepted
  pub accepted-valid : is_accepted (step w).answer ≡ true → valid_whole w ≡ true
  unfolding is_accepted
  accepted-valid e = go (valid_whole w) refl
    where
      go : (t : Bool) → valid_whole w ≡ t → valid_whole w ≡ true
      go true h = h
      go false h = clash (sym (ap (λ (x : Result). is_accepted x.answer) (invalid-step h)) ∙ e)

  -- ---- what is not accepted changes nothing

  taken-kept : (a : machine.After) → is_accepted a.answer ≡ false → (taken w a).whole ≡ w
  unfolding taken
  taken-kept a e = rw e

  pub step_kept : is_accepted (step w).answer ≡ false → (step w).whole ≡ w
  step_kept e = go (valid_whole w) refl
    where
      go : (t : Bool) → valid_whole w ≡ t → (step w).whole ≡ w
      go false h = ap (λ (x : Result). x.whole) (invalid-step h)
      go true h =
          ap (λ (x : Result). x.whole) (valid-step h) ∙ taken-kept (own w) (ap is_accepted (sym (step-answer h)) ∙ e)

  -- ---- what an accepted step leaves

  taken-recorded : (a : machine.After) → is_accepted a.answer ≡ true → (taken w a).whole ≡ recorded (own_record w) (moved w a)
  unfolding taken
  taken-recorded a e = rw e

  module _ (e : is_accepted (step w).answer ≡ true) where
    step-whole : (step w).whole ≡ recorded (own_record w) (moved w (own w))
    step-whole =
        let h : valid_whole w ≡ true = accepted-valid e in
        ap (λ (x : Result). x.whole) (valid-step h) ∙ taken-recorded (own w) (ap is_accepted (sym (step-answer h)) ∙ e)

    pub own-accepted : is_accepted (own w).answer ≡ true
    own-accepted = ap is_accepted (sym (step-answer (accepted-valid e))) ∙ e

    -- without room it is the machine's own
    pub step-unrecorded : room w.journal ≡ 0 → (step w).whole ≡ moved w (own w)
    unfolding advanced noted
    step-unrecorded z = step-whole ∙ rw (eq-eqb (room w.journal) 0 z)

    -- with room, slot `next` is filled, and next and held go on
    pub step-recorded : (room w.journal ≡ 0 → ⊥) → (step w).whole ≡ with_record w
    unfolding advanced noted
    step-recorded n = step-whole ∙ rw (ne_eqb (room w.journal) 0 n)

    -- what holds of both holds after it
    pub accepted-step : (P : Whole → Type 0) → (room w.journal ≡ 0 → P (moved w (own w)))
        → (0 < room w.journal → P (with_record w)) → P (step w).whole
    accepted-step P none some = go (eqb (room w.journal) 0) refl
      where
        go : (t : Bool) → eqb (room w.journal) 0 ≡ t → P (step w).whole
        go true z = let k = eqb-true (room w.journal) 0 z in subst⁻¹ P (step-unrecorded k) (none k)
        go false z =
            let k = eqb-false (room w.journal) 0 z in
            subst⁻¹ P (step-recorded k) (some (omega (arith, k)))

  -- and what holds before it too, after every step
  pub every-step : (P : Whole → Type 0) → P w → (is_accepted (step w).answer ≡ true → P (step w).whole) → P (step w).whole
  every-step P x y = go (is_accepted (step w).answer) refl
    where
      go : (t : Bool) → is_accepted (step w).answer ≡ t → P (step w).whole
      go false e = subst⁻¹ P (step_kept e) x
      go true e = y e

  -- ---- the record

  pub own-eight : length w.state.machine.registers.value ≡ 8 → length (own_record w).registers ≡ 8
  own-eight l =
      let m = w.state.machine in
      ap length (record-registers m.registers w.bytes (plan m w.bytes).changes) ∙ l

  -- ---- what every step keeps

  -- eight registers
  pub step-eight-kept : length w.state.machine.registers.value ≡ 8 → length (step w).whole.state.machine.registers.value ≡ 8
  step-eight-kept l =
      let k = machine-laws.step-eight w.state.machine w.bytes l in
      every-step Eight l (λ e. accepted-step e Eight (λ z. k) (λ n. k))
    where
      Eight : Whole → Type 0
      Eight v = length v.state.machine.registers.value ≡ 8

  -- tables
  pub step_map : (step w).whole.state.machine.map ≡ w.state.machine.map
  step_map =
      let k = machine-laws.step_map w.state.machine w.bytes in
      every-step Same refl (λ e. accepted-step e Same (λ z. k) (λ n. k))
    where
      Same : Whole → Type 0
      Same v = v.state.machine.map ≡ w.state.machine.map

  -- the journal's room
  pub filled-room : length w.state.machine.registers.value ≡ 8 → valid_whole w ≡ true → 0 < room w.journal
      → room (filled w.journal w.state.next (own_record w)) ≡ room w.journal
  filled-room l h n = room-filled w.journal w.state.next (own_record w) (own-eight l) (next-slot w h n)

  pub step_room : length w.state.machine.registers.value ≡ 8 → room (step w).whole.journal ≡ room w.journal
  step_room l =
      every-step Kept refl (λ e. accepted-step e Kept (λ z. refl) (λ n. filled-room l (accepted-valid e) n))
    where
      Kept : Whole → Type 0
      Kept v = room v.journal ≡ room w.journal

  -- validity
  pub step-valid : length w.state.machine.registers.value ≡ 8 → valid_whole w ≡ true → valid_whole (step w).whole ≡ true
  step-valid l h =
      every-step (λ (v : Whole). valid_whole v ≡ true) h (λ e. together (step w).whole (accepted-step e Parts none some))
    where
      p : Parts w
      p = parts w h

      moved-tables : machine-states.valid (own w).machine (own w).bytes.dev ≡ true
      moved-tables = machine-laws.step-valid w.state.machine w.bytes p.tables

      none : room w.journal ≡ 0 → Parts (moved w (own w))
      none z = record { tables = moved-tables; held = p.held; next = p.next }

      some : 0 < room w.journal → Parts (with_record w)
      some n =
          let d = room w.journal in
          let k = w.state.next in
          let q : room (filled w.journal k (own_record w)) ≡ d = filled-room l h n in
          record { tables = moved-tables; held = rw q (omega arith); next = rw q (omega (arith, after-lt d k n)) }

  -- ---- without its record, the step is the machine's own

  pub record Own : Type 0 where
    pub answer : (step w).answer ≡ (own w).answer
    pub machine : (step w).whole.state.machine ≡ (own w).machine
    pub bytes : (step w).whole.bytes ≡ (own w).bytes

  -- what is not accepted changes nothing there either
  unaccepted-own : (a : Told StepAnswer) → (own w).answer ≡ a → is_accepted a ≡ false
      → own w ≡ machine.after a w.state.machine w.bytes
  unfolding is_accepted
  unaccepted-own (is Continue) e n = clash (sym n)
  unaccepted-own (is Debug) e n = clash (sym n)
  unaccepted-own (is Stop) e n = machine-laws.step-stopped w.state.machine w.bytes e
  unaccepted-own (no k) e n = machine-laws.step-refused w.state.machine w.bytes k e

  pub step-own : valid_whole w ≡ true → Own
  step-own h = go (is_accepted (step w).answer) refl
    where
      go : (t : Bool) → is_accepted (step w).answer ≡ t → Own
      go true e = record {
        answer = step-answer h;
        machine = accepted-step e (λ (v : Whole). v.state.machine ≡ (own w).machine) (λ z. refl) (λ n. refl);
        bytes = accepted-step e (λ (v : Whole). v.bytes ≡ (own w).bytes) (λ z. refl) (λ n. refl);
      }
      go false e =
          let q = unaccepted-own (own w).answer refl (ap is_accepted (sym (step-answer h)) ∙ e) in
          record {
            answer = step-answer h;
            machine = ap (λ (v : Whole). v.state.machine) (step_kept e) ∙ sym (ap (λ (x : machine.After). x.machine) q);
            bytes = ap (λ (v : Whole). v.bytes) (step_kept e) ∙ sym (ap (λ (x : machine.After). x.bytes) q);
          }

  -- ---- a refused step's number is 1 to 9

  step-numbered : Numbered 1 9 (step w).answer
  step-numbered = go (valid_whole w) refl
    where
      go : (t : Bool) → valid_whole w ≡ t → Numbered 1 9 (step w).answer
      go true h = subst⁻¹ (Numbered 1 9) (step-answer h) (machine-laws.step-numbered w.state.machine w.bytes)
      go false h = subst⁻¹ (λ (x : Result). Numbered 1 9 x.answer) (invalid-step h) (omega arith, omega arith)

  -- so what holds of Continue and Debug as accepted, and of Stop and these numbers as not accepted, holds of every step's answer
  pub every-answer : (P : Told StepAnswer → Bool → Type 0) → P (is Continue) true → P (is Debug) true
      → P (is Stop) false → ((n : ℕ) → 1 ≤ n → n ≤ 9 → P (no n) false) → P (step w).answer (is_accepted (step w).answer)
  unfolding is_accepted
  every-answer P continues debugs stops refused = go (step w).answer step-numbered
    where
      go : (a : Told StepAnswer) → Numbered 1 9 a → P a (is_accepted a)
      go (is Continue) h = continues
      go (is Debug) h = debugs
      go (is Stop) h = stops
      go (no n) h = refused n h.0 h.1
