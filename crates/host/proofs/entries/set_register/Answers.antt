-- Past the test of the whole state the call below decides.
use Rattle.std.proofs.Common.{◌≡◌, ◌∙◌, true, false, sym, rules}
use Rattle.base.specs.Numbers.{number_of, answer_number}
use Rattle.journal.specs.States.{valid}
use Rattle.host.specs.Host.{settled, set_number, set_state}
use Rattle.host.proofs.Below.{set-number, set-ok, set-err}
use Rattle.host.proofs.entries.set_register.Goals as goal

pub returns-then-not-valid : goal.returns-then-not-valid
unfolding settled set_number set_state
returns-then-not-valid c =
    let v : valid c.args.s.now c.args.dev.now c.args.journal.now ≡ false = sym c.valid.ensures ∙ c.if-not-valid.true in
    record { answer_value = rw v; state_value = rw v }

pub returns-in_err-set_register : goal.returns-in_err-set_register
returns-in_err-set_register c =
    let v : valid c.args.s.now c.args.dev.now c.args.journal.now ≡ true = sym c.valid.ensures ∙ c.if-not-valid.false in
    let e : answer_number c.from_residual.result ≡ number_of c.in_err-set_register.field-0.0 = search rules in
    let q = c.in_err-set_register.ensures.answer_value in
    record {
      answer_value = e ∙ q ∙ set-number c.args.s.now c.args.dev.now c.args.journal.now v c.args.number;
      state_value = set-err c.args.s.now c.args.dev.now c.args.journal.now v c.args.number c.args.value c.set_register.new.m c.set_register.ensures.machine_value c.in_err-set_register.field-0.0 q;
    }

pub returns : goal.returns
returns c =
    let v : valid c.args.s.now c.args.dev.now c.args.journal.now ≡ true = sym c.valid.ensures ∙ c.if-not-valid.false in
    let q = c.in_ok-set_register.ensures.answer_value in
    record {
      answer_value = q ∙ set-number c.args.s.now c.args.dev.now c.args.journal.now v c.args.number;
      state_value = c.empty_journal.ensures ∙ set-ok c.args.s.now c.args.dev.now c.args.journal.now v c.args.number c.args.value c.set_register.new.m c.set_register.ensures.machine_value q;
    }
