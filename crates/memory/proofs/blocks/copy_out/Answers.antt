-- One byte more is copied, or the copying ends at an unmapped byte or once all are copied. Assumes nothing.
use Rattle.std.proofs.Common.{◌≡◌, sym, ◌∙◌, arith, rules}
use Rattle.memory.specs.Bytes.{lent}
use Rattle.memory.proofs.Copies.{copied-end, copied-stop, copied_more}
use Rattle.memory.proofs.blocks.copy_out.Goals as goal

pub returns-in-None : goal.returns-in-None
returns-in-None c =
    let l = copied-stop c.args.m (lent c.args.mem.now c.args.dev.now) c.args.start c.args.size c.args.out.now c.loop-i.out c.loop-i.i c.loop-i.invariant.1 (omega arith) (omega arith) (sym c.in-None.ensures) in
    record { value = l.0; out_after = l.1 }

pub loop-i-preserved : goal.loop-i-preserved
loop-i-preserved c = (
  search rules,
  copied_more c.args.m (lent c.args.mem.now c.args.dev.now) c.args.start c.args.size c.args.out.now c.loop-i.out c.loop-i.i c.loop-i.invariant.1 (omega arith) (omega arith) _ _ (sym c.in-Some.ensures) (omega arith),
)

pub returns : goal.returns
returns c =
    let l = copied-end c.args.m (lent c.args.mem.now c.args.dev.now) c.args.start c.args.size c.args.out.now c.loop-i.out c.loop-i.i c.loop-i.invariant.1 (omega arith) (omega arith) in
    let e : c.args.size ≡ c.loop-i.i = omega arith in
    record { value = e ∙ l.0; out_after = l.1 }
