-- One word more is stored, or one is not stored, or all were. Assumes nothing.
use Rattle.std.proofs.Common.{refl, sym, ap, true, false, rules}
use Rattle.memory.specs.Bytes.{lent}
use Rattle.memory.specs.Program.{Words}
use Rattle.memory.proofs.Programs.{words-end, words-stop, words_more}
use Rattle.memory.proofs.program.store_words.Goals as goal

pub returns-then-not-is_done : goal.returns-then-not-is_done
returns-then-not-is_done c =
    let e = words-stop c.args.m c.args.words.now (lent c.args.mem.now c.args.dev.now) (lent c.loop-i.mem c.loop-i.dev) c.loop-i.i c.loop-i.invariant.2 c.loop-i-test.true
    c.from-a.result.0 c.from-a.ensures c.store_word.result c.store_word.ensures.result_value
    (lent c.store_word.new.mem c.store_word.new.dev) c.store_word.ensures.dev_after false c.if-not-is_done.ensures refl in
    record { value = sym (ap (λ (w : Words). w.all) e); dev_after = sym (ap (λ (w : Words). w.bytes) e) }

pub loop-i-preserved : goal.loop-i-preserved
loop-i-preserved c = (
  search rules,
  search rules,
  words_more c.args.m c.args.words.now (lent c.args.mem.now c.args.dev.now) (lent c.loop-i.mem c.loop-i.dev) c.loop-i.i c.loop-i.invariant.2 c.loop-i-test.true
      c.from-a.result.0 c.from-a.ensures c.store_word.result c.store_word.ensures.result_value
      (lent c.store_word.new.mem c.store_word.new.dev) c.store_word.ensures.dev_after true c.if-not-is_done.ensures refl,
)

pub returns : goal.returns
returns c =
    let e = words-end c.args.m c.args.words.now (lent c.args.mem.now c.args.dev.now) (lent c.loop-i.mem c.loop-i.dev) c.loop-i.i c.loop-i.invariant.2 c.loop-i-test.false in
    record { value = sym (ap (λ (w : Words). w.all) e); dev_after = sym (ap (λ (w : Words). w.bytes) e) }
