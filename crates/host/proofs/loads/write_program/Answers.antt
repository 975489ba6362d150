-- Past the test of the whole state memory loads, and its answer says whether it began.
use Rattle.std.proofs.Common.{◌≡◌, ◌∙◌, true, false, sym, ap}
use Rattle.memory.specs.Bytes.{lent}
use Rattle.memory.specs.Program as memory
use Rattle.journal.specs.States.{valid}
use Rattle.host.specs.Host.{past, begins, load_number, load_state, load_bytes}
use Rattle.host.proofs.Below.{load-number, load-map, load-bytes, load-kept, begins-past}
use Rattle.host.proofs.loads.write_program.Goals as goal

pub returns-then-not-valid : goal.returns-then-not-valid
unfolding load_number begins load_state load_bytes
returns-then-not-valid c =
    let v : valid c.args.s.now c.args.dev.now c.args.journal.now ≡ false = sym c.valid.ensures ∙ c.if-not-valid.true in
    record { answer_value = rw v; state_value = rw v; dev_after = rw v }

pub returns-then-is_past : goal.returns-then-is_past
unfolding load_state
returns-then-is_past c =
    let s = c.args.s.now in
    let bytes = lent c.args.mem.now c.args.dev.now in
    let v : valid s c.args.dev.now c.args.journal.now ≡ true = sym c.valid.ensures ∙ c.if-not-valid.false in
    let q = c.write_program-answer.ensures in
    let p : past (memory.load_number s.machine.map bytes c.args.words.now) ≡ true = ap past (sym q.answer_value) ∙ sym c.is_past.ensures ∙ c.if-is_past.true in
    let g = begins-past s bytes c.args.journal.now v c.args.words.now ∙ p in
    record {
      answer_value = q.answer_value ∙ load-number s bytes c.args.journal.now v c.args.words.now;
      state_value = c.empty_journal.ensures ∙ rw (q.map_value ∙ load-map s bytes c.args.journal.now v c.args.words.now, g);
      dev_after = q.dev_after ∙ load-bytes s bytes c.args.journal.now v c.args.words.now;
    }

pub returns-else-is_past : goal.returns-else-is_past
unfolding load_state
returns-else-is_past c =
    let s = c.args.s.now in
    let bytes = lent c.args.mem.now c.args.dev.now in
    let v : valid s c.args.dev.now c.args.journal.now ≡ true = sym c.valid.ensures ∙ c.if-not-valid.false in
    let q = c.write_program-answer.ensures in
    let p : past (memory.load_number s.machine.map bytes c.args.words.now) ≡ false = ap past (sym q.answer_value) ∙ sym c.is_past.ensures ∙ c.if-is_past.false in
    let g = begins-past s bytes c.args.journal.now v c.args.words.now ∙ p in
    record {
      answer_value = q.answer_value ∙ load-number s bytes c.args.journal.now v c.args.words.now;
      state_value = rw (q.map_value ∙ load-kept s bytes c.args.journal.now v c.args.words.now p, g);
      dev_after = q.dev_after ∙ load-bytes s bytes c.args.journal.now v c.args.words.now;
    }
