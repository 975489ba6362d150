-- Past the test of the whole state memory reads out.
use Rattle.std.proofs.Common.{◌≡◌, ◌∙◌, ℕ, true, false, sym, length, arith}
use Rattle.memory.specs.Bytes.{lent}
use Rattle.memory.proofs.Orders.{counting-none, copying-none}
use Rattle.journal.specs.States.{valid}
use Rattle.host.specs.Host.{read_number, read_out, read_out_buffer}
use Rattle.host.proofs.Below.{read-out, read-buffer}
use Rattle.host.proofs.reads.read_out.Goals as goal

pub returns-then-not-valid : goal.returns-then-not-valid
unfolding read_number read_out read_out_buffer
returns-then-not-valid c =
    let v : valid c.args.s c.args.dev.now c.args.journal.now ≡ false = sym c.valid.ensures ∙ c.if-not-valid.true in
    let bytes = lent c.args.mem.now c.args.dev.now in
    let one : ◌≡◌ {A = ℕ} 1 0 → ⊥ = λ e. omega arith in
    record {
      result_value = rw v (sym (counting-none c.args.s.machine.map bytes c.args.start c.args.size 1 one));
      buffer_after = rw v (sym (copying-none c.args.s.machine.map bytes c.args.start c.args.size 1 one c.args.buffer.now));
    }

pub returns : goal.returns
returns c =
    let v : valid c.args.s c.args.dev.now c.args.journal.now ≡ true = sym c.valid.ensures ∙ c.if-not-valid.false in
    let q = c.read_out.ensures in
    let bytes = lent c.args.mem.now c.args.dev.now in
    record {
      result_value = q.result_value ∙ read-out c.args.s bytes c.args.journal.now v c.args.start c.args.size (length c.args.buffer.now);
      buffer_after = q.out_after ∙ read-buffer c.args.s bytes c.args.journal.now v c.args.start c.args.size c.args.buffer.now;
    }
