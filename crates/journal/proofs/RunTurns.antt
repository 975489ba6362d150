-- One turn of a run that has k steps behind it: what is left of n falls by one as the count is raised. Assumes nothing.
use mathlib.Core.Path.{◌≡◌, refl, sym, ap, ◌∙◌}
use mathlib.Core.Bool.{Bool, true, false}
use Prim.Native.Nat.{ℕ, suc, ◌+◌, ◌-◌, ◌<◌, ◌≤◌}
use native.Mathlib.Omega.{arith}
use Rattle.base.specs.Choice.{cond}
use Rattle.base.specs.Told.{Told, is, no}
use Rattle.base.proofs.Tests.{clash}
use Rattle.machine.specs.declared.StepAnswer.{StepAnswer}
use Rattle.machine.specs.declared.StepAnswer.TheVariants.{Continue, Debug, Stop}
use Rattle.journal.specs.States.{Whole, valid_whole}
use Rattle.journal.specs.Step.{Result, result_of, step}
use Rattle.journal.proofs.StepLaws.{invalid-step}
use Rattle.journal.specs.Run.{Ran, ran, one_more, goes_on, counts, repeated, run}

-- k accepted steps, and then r
abbrev pub counted : ℕ → Ran → Ran
counted k r = ran r.answer (k + r.count) r.whole

pub begun : (n : ℕ) (w : Whole) → counted 0 (repeated (n - 0) w) ≡ repeated n w
begun n w =
    let e : n - 0 ≡ n = omega arith in
    let f : 0 + (repeated n w).count ≡ (repeated n w).count = omega arith in
    ap (λ (x : ℕ). counted 0 (repeated x w)) e ∙ ap (λ (x : ℕ). ran (repeated n w).answer x (repeated n w).whole) f

module _ (n k : ℕ) (w v : Whole) (i : counted k (repeated (n - k) w) ≡ repeated n v) where
  -- no step is left
  pub ended : n ≤ k → ran (is Continue) k w ≡ repeated n v
  unfolding repeated
  ended h =
      let e : n - k ≡ 0 = omega arith in
      let f : k + 0 ≡ k = omega arith in
      ap (λ (x : ℕ). ran (is Continue) x w) (sym f) ∙ sym (ap (λ (x : ℕ). counted k (repeated x w)) e) ∙ i

  module _ (h : k < n) (a : Told StepAnswer) (u : Whole) (e : result_of a u ≡ step w) where
    -- the step, and what is left after it
    stepped : counted k (cond (goes_on a) (one_more (repeated (n - (k + 1)) u)) (ran a (counts a) u)) ≡ repeated n v
    unfolding repeated
    stepped =
        let f : n - k ≡ suc (n - (k + 1)) = omega arith in
        ap (λ (x : Result). counted k (cond (goes_on x.answer) (one_more (repeated (n - (k + 1)) x.whole)) (ran x.answer (counts x.answer) x.whole))) e
        ∙ sym (ap (λ (x : ℕ). counted k (repeated x w)) f) ∙ i

    -- a run that goes on, and one that ends with this step
    pub goes-on : goes_on a ≡ true → counted (k + 1) (repeated (n - (k + 1)) u) ≡ repeated n v
    goes-on g =
        let r = repeated (n - (k + 1)) u in
        let f : k + 1 + r.count ≡ k + suc r.count = omega arith in
        ap (λ (x : ℕ). ran r.answer x r.whole) f ∙ sym (ap (λ (t : Bool). counted k (cond t (one_more r) (ran a (counts a) u))) g) ∙ stepped

    pub ends : goes_on a ≡ false → ran a (k + counts a) u ≡ repeated n v
    ends g = sym (ap (λ (t : Bool). counted k (cond t (one_more (repeated (n - (k + 1)) u)) (ran a (counts a) u))) g) ∙ stepped

-- ---- a run of one is a step

going-continues : (a : Told StepAnswer) → goes_on a ≡ true → a ≡ is Continue
unfolding goes_on
going-continues (is Continue) e = refl
going-continues (is Debug) e = clash e
going-continues (is Stop) e = clash e
going-continues (no n) e = clash e

pub run-one : (w : Whole) → result_of (run 1 w).answer (run 1 w).whole ≡ step w
unfolding run repeated
run-one w = go (valid_whole w) refl (goes_on (step w).answer) refl
  where
    go : (v : Bool) → valid_whole w ≡ v → (g : Bool) → goes_on (step w).answer ≡ g → result_of (run 1 w).answer (run 1 w).whole ≡ step w
    go false v g e = rw v (sym (invalid-step w v))
    go true v true e = rw (v, e) (ap (λ (a : Told StepAnswer). result_of a (step w).whole) (sym (going-continues (step w).answer e)))
    go true v false e = rw (v, e)
