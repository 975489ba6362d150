-- A run is a walk of as many steps as it counts, each of them accepted: by recursion on the steps that are left, as the
-- definition has it. So demand 3 speaks of runs too. Assumes nothing.
use Prim.Native.Nat.{ℕ, zero, suc, ◌≤◌}
use mathlib.Core.Path.{◌≡◌, refl, sym, ap, ◌∙◌, subst⁻¹}
use mathlib.Core.Bool.{Bool, true, false}
use lib.ListN.{length, replicate}
use native.Mathlib.Omega.{arith}
use Rattle.base.specs.Choice.{cond}
use Rattle.base.specs.Told.{Told, is, no}
use Rattle.base.proofs.ToldLaws.{is-not-no}
use Rattle.base.proofs.Tests.{clash}
use Rattle.machine.specs.declared.StepAnswer.{StepAnswer}
use Rattle.machine.specs.declared.StepAnswer.TheVariants.{Continue, Debug, Stop}
use Rattle.journal.specs.States.{Whole, valid_whole}
use Rattle.journal.specs.Step.{Result, is_accepted, step}
use Rattle.journal.specs.Run.{Ran, ran, one_more, goes_on, counts, repeated, run}
use Rattle.journal.specs.Demand.{Step, after_move, walk, steps}
use Rattle.journal.proofs.WalkLaws.{walk_none}
use Rattle.journal.proofs.StepLaws.{invalid-step, step_kept, step-eight-kept, step-valid}

-- what is said of a run of at most n steps from w
pub record Walks (w : Whole) (n : ℕ) (r : Ran) : Type 0 where
  pub most : r.count ≤ n
  pub whole : r.whole ≡ walk w (replicate r.count Step)
  pub accepted : steps w (replicate r.count Step) ≡ r.count
  -- it goes on to the n-th step while the answer is Continue
  pub full : r.answer ≡ is Continue → r.count ≡ n
  -- and stops where a step is not accepted, with that step's answer
  pub stops : is_accepted r.answer ≡ false → (step r.whole).answer ≡ r.answer

-- no step was accepted
none-walks : (w : Whole) (n : ℕ) (a : Told StepAnswer) (v : Whole) → v ≡ w → (a ≡ is Continue → 0 ≡ n)
    → (is_accepted a ≡ false → (step w).answer ≡ a) → Walks w n (ran a 0 v)
unfolding walk steps
none-walks w n a v e f g = record {
  most = omega arith;
  whole = e;
  accepted = refl;
  full = f;
  stops = λ k. ap (λ (x : Whole). (step x).answer) e ∙ g k;
}

-- what a step's answer leads to
abbrev onward : Told StepAnswer → Whole → Ran → Ran
onward a w rest = cond (goes_on a) (one_more rest) (ran a (counts a) w)

onward-walks : (w : Whole) (n : ℕ) (a : Told StepAnswer) → (step w).answer ≡ a → (rest : Ran) → Walks (step w).whole n rest
    → Walks w (suc n) (onward a (step w).whole rest)
unfolding goes_on counts walk after_move steps is_accepted
onward-walks w n (is Continue) e rest k = record {
  most = omega (arith, k.most);
  whole = k.whole;
  accepted = rw e (omega (arith, k.accepted));
  full = λ f. omega (arith, k.full f);
  stops = k.stops;
}
onward-walks w n (is Debug) e rest k = record {
  most = omega arith;
  whole = refl;
  accepted = rw e;
  full = λ f. clash cc;
  stops = λ f. clash (sym f);
}
onward-walks w n (is Stop) e rest k =
    none-walks w (suc n) (is Stop) (step w).whole (step_kept w (ap is_accepted e)) (λ f. clash cc) (λ f. e)
onward-walks w n (no x) e rest k =
    none-walks w (suc n) (no x) (step w).whole (step_kept w (ap is_accepted e)) (λ f. is-not-no Continue x (sym f)) (λ f. e)

repeated-walks : (n : ℕ) (w : Whole) → Walks w n (repeated n w)
unfolding repeated is_accepted
repeated-walks zero w = none-walks w 0 (is Continue) w refl (λ f. refl) (λ f. clash (sym f))
repeated-walks (suc n) w =
    onward-walks w n (step w).answer refl (repeated n (step w).whole) (repeated-walks n (step w).whole)

-- ---- a run, valid state or not

module _ (n : ℕ) (w : Whole) where
  pub invalid-run : valid_whole w ≡ false → run n w ≡ ran (no 1) 0 w
  unfolding run
  invalid-run h = rw h

  pub valid-run : valid_whole w ≡ true → run n w ≡ repeated n w
  unfolding run
  valid-run h = rw h

  pub run-walks : Walks w n (run n w)
  run-walks = go (valid_whole w) refl
    where
      go : (t : Bool) → valid_whole w ≡ t → Walks w n (run n w)
      go true h = subst⁻¹ (Walks w n) (valid-run h) (repeated-walks n w)
      go false h =
          subst⁻¹ (Walks w n) (invalid-run h)
          (none-walks w n (no 1) w refl (λ f. is-not-no Continue 1 (sym f)) (λ f. ap (λ (x : Result). x.answer) (invalid-step w h)))

  pub run-walk : (run n w).whole ≡ walk w (replicate (run n w).count Step)
  run-walk = run-walks.whole

  pub run-count : (run n w).count ≤ n
  run-count = run-walks.most

  pub run-steps : steps w (replicate (run n w).count Step) ≡ (run n w).count
  run-steps = run-walks.accepted

  -- one that counts none changes nothing: it was refused at once, at Stop, or a run of 0 steps
  pub run-kept : (run n w).count ≡ 0 → (run n w).whole ≡ w
  run-kept h = run-walk ∙ ap (λ (k : ℕ). walk w (replicate k Step)) h ∙ walk_none w

-- ---- what every run keeps

pub record Good (w : Whole) : Type 0 where
  pub eight : length w.state.machine.registers.value ≡ 8
  pub valid : valid_whole w ≡ true

walk-good : (n : ℕ) (w : Whole) → Good w → Good (walk w (replicate n Step))
unfolding walk after_move
walk-good zero w g = g
walk-good (suc n) w g =
    walk-good n (step w).whole (record { eight = step-eight-kept w g.eight; valid = step-valid w g.eight g.valid })

pub run-good : (n : ℕ) (w : Whole) → Good w → Good (run n w).whole
run-good n w g = subst⁻¹ Good (run-walk n w) (walk-good (run n w).count w g)
