-- Past the test of the whole state the call below decides.
use Rattle.std.proofs.Common.{◌≡◌, ◌∙◌, true, false, sym, rules}
use Rattle.base.specs.Numbers.{number_of, answer_number}
use Rattle.journal.specs.States.{valid}
use Rattle.host.specs.Host.{settled, protect_number, protect_state}
use Rattle.host.proofs.Below.{protect-number, protect-ok, protect-err}
use Rattle.host.proofs.entries.protect.Goals as goal

pub returns-then-not-valid : goal.returns-then-not-valid
unfolding settled protect_number protect_state
returns-then-not-valid c =
    let v : valid c.args.s.now c.args.dev.now c.args.journal.now ≡ false = sym c.valid.ensures ∙ c.if-not-valid.true in
    record { answer_value = rw v; state_value = rw v }

pub returns-in_err-protect : goal.returns-in_err-protect
returns-in_err-protect c =
    let v : valid c.args.s.now c.args.dev.now c.args.journal.now ≡ true = sym c.valid.ensures ∙ c.if-not-valid.false in
    let e : answer_number c.from_residual.result ≡ number_of c.in_err-protect.field-0.0 = search rules in
    let q = c.in_err-protect.ensures.answer_value in
    record {
      answer_value = e ∙ q ∙ protect-number c.args.s.now c.args.dev.now c.args.journal.now v c.args.start c.args.len;
      state_value = protect-err c.args.s.now c.args.dev.now c.args.journal.now v c.args.start c.args.len c.protect.new.m c.protect.ensures.map_value c.in_err-protect.field-0.0 q;
    }

pub returns : goal.returns
returns c =
    let v : valid c.args.s.now c.args.dev.now c.args.journal.now ≡ true = sym c.valid.ensures ∙ c.if-not-valid.false in
    let q = c.in_ok-protect.ensures.answer_value in
    record {
      answer_value = q ∙ protect-number c.args.s.now c.args.dev.now c.args.journal.now v c.args.start c.args.len;
      state_value = c.empty_journal.ensures ∙ protect-ok c.args.s.now c.args.dev.now c.args.journal.now v c.args.start c.args.len c.protect.new.m c.protect.ensures.map_value q;
    }
