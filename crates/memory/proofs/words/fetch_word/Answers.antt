-- Where both bytes are linear, the word is that of the two bytes there. Assumes nothing.
use Rattle.std.proofs.Common.{◌+◌, ◌<◌, length, sym, arith}
use Rattle.map.proofs.Laws.{linear-below}
use Rattle.memory.specs.Bytes.{lent}
use Rattle.memory.proofs.WordLaws.{read-linear}
use Rattle.memory.proofs.words.fetch_word.Goals as goal

pub bounds-mem-i : goal.bounds-mem-i
bounds-mem-i c =
    let h : c.args.a + 1 < length c.args.mem.now = linear-below c.args.m (length c.args.mem.now) c.args.a (sym c.if-is_linear_word.ensures) in
    omega (arith, h)

pub bounds-mem-i-then-is_linear_word : goal.bounds-mem-i-then-is_linear_word
bounds-mem-i-then-is_linear_word c = linear-below c.args.m (length c.args.mem.now) c.args.a (sym c.if-is_linear_word.ensures)

pub returns-then-is_linear_word : goal.returns-then-is_linear_word
returns-then-is_linear_word c =
    rw c.word.ensures (sym (read-linear c.args.m (lent c.args.mem.now c.args.dev.now) c.args.a (sym c.if-is_linear_word.ensures)))
