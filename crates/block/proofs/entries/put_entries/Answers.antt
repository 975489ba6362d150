use Rattle.std.proofs.Common.{◌≡◌, ◌∙◌, length, ap, arith}
use Rattle.block.proofs.Tables.{table-start, table-next}
use Rattle.block.proofs.entries.put_entries.Goals as goal

pub loop-n-init : goal.loop-n-init
loop-n-init g c = let e = g.E.Entry in table-start e.first e.second c.args.block.now c.args.i

pub put_words-requires : goal.put_words-requires
put_words-requires g c =
    let two : length c.words.result ≡ 2 = ap length c.words.ensures in
    omega arith

pub loop-n-preserved : goal.loop-n-preserved
loop-n-preserved g c =
    let e = g.E.Entry in
    let x = c.index-entries-n in
    c.put_words.ensures
    ∙ rw (c.words.ensures, c.loop-n.invariant)
    (table-next e.first e.second c.args.block.now c.args.i c.args.entries.now c.loop-n.n x.result c.loop-n-test.true x.is)
