-- Run(n) repeats step until n accepted, Stop, Debug or a refusal; its answer is the last step's, Continue for n = 0 (1 still
-- comes first); its count is the accepted steps.
use Rattle.std.specs.Prelude.{ℕ, zero, suc, Bool, true, false}
use Rattle.base.specs.Choice.{cond}
use Rattle.base.specs.Told.{Told, is, no}
use Rattle.machine.specs.declared.StepAnswer.{StepAnswer}
use Rattle.machine.specs.declared.StepAnswer.TheVariants.{Continue, Debug, Stop}
use Rattle.journal.specs.States.{Whole, valid}
use Rattle.journal.specs.Step.{is_accepted, step}

pub record Ran : Type 0 where
  pub answer : Told StepAnswer
  pub count : ℕ
  pub whole : Whole

abbrev pub ran : Told StepAnswer → ℕ → Whole → Ran
ran a n w = record { answer = a; count = n; whole = w }

-- one accepted step more, before the others
abbrev pub one_more : Ran → Ran
one_more r = ran r.answer (suc r.count) r.whole

-- only Continue leads on
unfoldable pub goes_on : Told StepAnswer → Bool
goes_on (is Continue) = true
goes_on (is Debug) = false
goes_on (is Stop) = false
goes_on (no n) = false

-- a step counts if it is accepted, Debug included
unfoldable pub counts : Told StepAnswer → ℕ
counts a = cond (is_accepted a) 1 0

unfoldable pub repeated : ℕ → Whole → Ran
repeated zero w = ran (is Continue) 0 w
repeated (suc n) w =
    let a = step w in
    cond (goes_on a.answer) (one_more (repeated n a.whole)) (ran a.answer (counts a.answer) a.whole)

unfoldable pub run : ℕ → Whole → Ran
run n w = cond (valid w.state w.bytes.dev w.journal) (repeated n w) (ran (no 1) 0 w)
