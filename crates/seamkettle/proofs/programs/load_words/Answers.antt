-- The words that were read are loaded, or others that are too many likewise. Assumes nothing.
use mathlib.Core.Path.{sym, ◌∙◌}
use native.Mathlib.Omega.{arith}
use Rattle.wordbytes.proofs.Laws.{lent-part, lent_fits, read-part}
use Rattle.memory.specs.Bytes.{lent}
use Rattle.seamkettle.proofs.LoadLaws.{load_many, load_read}
use Rattle.seamkettle.proofs.programs.load_words.Goals as goal

pub returns-then-n-gt32769 : goal.returns-then-n-gt32769
returns-then-n-gt32769 c = let bytes = c.args.bytes.now in
    let program = c.args.program.now in
    let b = lent c.args.memory.now c.args.devices.now in
    let j = c.args.journal.now in
    let w = c.write_program.ensures in
    let m = load_many c.args.s.now b j bytes program c.if-n-gt32769.true c.requires in
    record { answer_value = w.answer_value ∙ m.0; state_value = w.state_value ∙ m.1; devices_after = w.dev_after ∙ m.2 }

pub slice_bounds-read_words-end-2 : goal.slice_bounds-read_words-end-2
slice_bounds-read_words-end-2 c = let bytes = c.args.bytes.now in
    let program = c.args.program.now in
    sym (lent-part bytes program (omega (arith, c.if-n-gt32769.false, c.requires)))

pub read_words-requires : goal.read_words-requires
read_words-requires c = let bytes = c.args.bytes.now in
    let program = c.args.program.now in
    lent_fits bytes program (omega (arith, c.if-n-gt32769.false, c.requires))

pub slice_bounds-write_program-end-2 : goal.slice_bounds-write_program-end-2
slice_bounds-write_program-end-2 c = let bytes = c.args.bytes.now in
    let program = c.args.program.now in
    sym (read-part bytes program (omega (arith, c.if-n-gt32769.false, c.requires)) c.read_words.new.words c.read_words.ensures)

pub returns : goal.returns
returns c = let w = c.write_program-2.ensures in
    let bytes = c.args.bytes.now in
    let program = c.args.program.now in
    let b = lent c.args.memory.now c.args.devices.now in
    let j = c.args.journal.now in
    let m = load_read c.args.s.now b j bytes program (omega (arith, c.if-n-gt32769.false, c.requires)) c.read_words.new.words c.read_words.ensures in
    record { answer_value = w.answer_value ∙ m.0; state_value = w.state_value ∙ m.1; devices_after = w.dev_after ∙ m.2 }
