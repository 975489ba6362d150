-- With all words stored, the region is added last. Assumes nothing.
use Rattle.std.proofs.Common.{sym, ◌∙◌}
use Rattle.memory.specs.Bytes.{lent}
use Rattle.memory.proofs.Programs.{load-on}
use Rattle.memory.proofs.program.write_program.Goals as goal

pub returns-clause-answer_value : goal.returns-clause-answer_value
returns-clause-answer_value c =
    let l = load-on c.args.m.now (lent c.args.mem.now c.args.dev.now) c.args.words.now (sym c.if-not-valid.ensures) c.if-words-gt32768.false c.if-m-ge8.false (sym c.if-not-store_words.ensures.value) in
    c.add_region.ensures.answer_value ∙ l.0

pub returns-clause-map_value : goal.returns-clause-map_value
returns-clause-map_value c =
    let l = load-on c.args.m.now (lent c.args.mem.now c.args.dev.now) c.args.words.now (sym c.if-not-valid.ensures) c.if-words-gt32768.false c.if-m-ge8.false (sym c.if-not-store_words.ensures.value) in
    c.add_region.ensures.map_value ∙ l.1
