-- With k steps behind it, what is left of n steps gives the whole run's answer, k more counted; and the state stays valid. Assumes nothing.
use mathlib.Core.Path.{◌≡◌, sym, ap, ◌∙◌}
use mathlib.Core.Bool.{true, false}
use Prim.Native.Nat.{ℕ, ◌<◌}
use native.Mathlib.Omega.{arith}
use Rattle.base.specs.Told.{is, told}
use Rattle.machine.specs.declared.StepAnswer.TheVariants.{Continue}
use Rattle.memory.specs.Bytes.{lent}
use Rattle.journal.specs.States.{whole, valid}
use Rattle.journal.specs.Run.{goes_on, ran, run}
use Rattle.journal.specs.Step.{Result}
use Rattle.journal.proofs.StepLaws.{step_map}
use Rattle.records.proofs.Laws.{room-length}
use Rattle.journal.proofs.RunTurns.{ended, goes-on, ends}
use Rattle.journal.proofs.runs.run.Goals as goal

pub returns-then-not-valid : goal.returns-then-not-valid
unfolding run
returns-then-not-valid c = let f : valid c.args.s.now c.args.dev.now c.args.journal.now ≡ false = sym c.valid.ensures ∙ c.if-not-valid.true in
    rw f

pub turn-answer-requires-clause-d_value : goal.turn-answer-requires-clause-d_value
turn-answer-requires-clause-d_value c = c.room-d.ensures ∙ sym (room-length c.loop-count.journal _ c.loop-count.auto.journal)

pub returns-then-not-goes_on : goal.returns-then-not-goes_on
unfolding run
returns-then-not-goes_on c = let v = whole c.args.s.now (lent c.args.mem.now c.args.dev.now) c.args.journal.now in
    let w = whole c.loop-count.s (lent c.loop-count.mem c.loop-count.dev) c.loop-count.journal in
    let a = told c.turn-answer.result in
    let u = whole c.turn-answer.new.s (lent c.turn-answer.new.mem c.turn-answer.new.dev) c.turn-answer.new.journal in
    let f : valid c.args.s.now c.args.dev.now c.args.journal.now ≡ true = sym c.valid.ensures ∙ c.if-not-valid.false in
    let more : c.loop-count.count < c.args.n = omega (arith, c.loop-count-test.true) in
    let g : goes_on a ≡ false = sym c.goes_on.ensures ∙ c.if-not-goes_on.true in
    rw (f, c.counts.ensures.k_value) (ends c.args.n c.loop-count.count w v c.loop-count.invariant.left more a u c.turn-answer.ensures.journal_after g)

pub loop-count-preserved : goal.loop-count-preserved
loop-count-preserved c = let v = whole c.args.s.now (lent c.args.mem.now c.args.dev.now) c.args.journal.now in
    let w = whole c.loop-count.s (lent c.loop-count.mem c.loop-count.dev) c.loop-count.journal in
    let a = told c.turn-answer.result in
    let u = whole c.turn-answer.new.s (lent c.turn-answer.new.mem c.turn-answer.new.dev) c.turn-answer.new.journal in
    let more : c.loop-count.count < c.args.n = omega (arith, c.loop-count-test.true) in
    let g : goes_on a ≡ true = sym c.goes_on.ensures ∙ c.if-not-goes_on.false in
    record {
      same = c.loop-count.invariant.same ∙ sym (step_map w) ∙ ap (λ (x : Result). x.whole.state.machine.map) (sym c.turn-answer.ensures.journal_after);
      stays = c.turn-answer.ensures.stays_valid;
      left = goes-on c.args.n c.loop-count.count w v c.loop-count.invariant.left more a u c.turn-answer.ensures.journal_after g;
    }

pub returns : goal.returns
unfolding run
returns c = let v = whole c.args.s.now (lent c.args.mem.now c.args.dev.now) c.args.journal.now in
    let w = whole c.loop-count.s (lent c.loop-count.mem c.loop-count.dev) c.loop-count.journal in
    let f : valid c.args.s.now c.args.dev.now c.args.journal.now ≡ true = sym c.valid.ensures ∙ c.if-not-valid.false in
    let e : c.args.n ≡ c.loop-count.count = omega (arith, c.loop-count-test.false, c.loop-count.auto.count-end) in
    rw f (ap (λ (k : ℕ). ran (is Continue) k w) e ∙ ended c.args.n c.loop-count.count w v c.loop-count.invariant.left (omega arith))
