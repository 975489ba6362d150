-- Past the test of the whole state the call below decides.
use Rattle.std.proofs.Common.{◌≡◌, ◌∙◌, true, false, sym, rules}
use Rattle.base.specs.Numbers.{number_of, answer_number}
use Rattle.journal.specs.States.{valid}
use Rattle.host.specs.Host.{settled, register_number, register_state}
use Rattle.host.proofs.Below.{register-number, register-ok, register-err}
use Rattle.host.proofs.entries.register_device.Goals as goal

pub returns-then-not-valid : goal.returns-then-not-valid
unfolding settled register_number register_state
returns-then-not-valid c =
    let v : valid c.args.s.now c.args.dev.now c.args.journal.now ≡ false = sym c.valid.ensures ∙ c.if-not-valid.true in
    record { answer_value = rw v; state_value = rw v }

pub returns-in_err-register_device : goal.returns-in_err-register_device
returns-in_err-register_device c =
    let v : valid c.args.s.now c.args.dev.now c.args.journal.now ≡ true = sym c.valid.ensures ∙ c.if-not-valid.false in
    let e : answer_number c.from_residual.result ≡ number_of c.in_err-register_device.field-0.0 = search rules in
    let q = c.in_err-register_device.ensures.answer_value in
    record {
      answer_value = e ∙ q ∙ register-number c.args.s.now c.args.dev.now c.args.journal.now v c.args.start c.args.size;
      state_value = register-err c.args.s.now c.args.dev.now c.args.journal.now v c.args.start c.args.size c.register_device.new.m c.register_device.ensures.map_value c.in_err-register_device.field-0.0 q;
    }

pub returns : goal.returns
returns c =
    let v : valid c.args.s.now c.args.dev.now c.args.journal.now ≡ true = sym c.valid.ensures ∙ c.if-not-valid.false in
    let q = c.in_ok-register_device.ensures.answer_value in
    record {
      answer_value = q ∙ register-number c.args.s.now c.args.dev.now c.args.journal.now v c.args.start c.args.size;
      state_value = c.empty_journal.ensures ∙ register-ok c.args.s.now c.args.dev.now c.args.journal.now v c.args.start c.args.size c.register_device.new.m c.register_device.ensures.map_value q;
    }
