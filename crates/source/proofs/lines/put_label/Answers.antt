-- A word's mark is that of its address. Assumes nothing.
use mathlib.Core.Path.{◌≡◌, refl, sym, ap, ◌∙◌}
use mathlib.Core.Bool.{true, false}
use Prim.Native.Nat.{◌/◌}
use lib.Seq.{append_snoc}
use native.Mathlib.Omega.{arith}
use Rattle.base.specs.Words.{doubled}
use Rattle.source.specs.Source.{label_line}
use Rattle.source.specs.Marks.{used_in, is_marked}
use Rattle.pen.proofs.PenLaws.{none, joined}
use Rattle.source.proofs.lines.put_label.Goals as goal

pub returns-then-not-is_marked : goal.returns-then-not-is_marked
returns-then-not-is_marked c = let half : doubled c.args.k.0 / 2 ≡ c.args.k.0 = omega arith in
    let e : used_in c.args.used.now (doubled c.args.k.0) ≡ false = ap (is_marked c.args.used.now) half ∙ sym c.is_marked.ensures ∙ c.if-not-is_marked.true in
    rw e (refl, sym (none _))

pub returns : goal.returns
unfolding label_line
returns c = let half : doubled c.args.k.0 / 2 ≡ c.args.k.0 = omega arith in
    let e : used_in c.args.used.now (doubled c.args.k.0) ≡ true = ap (is_marked c.args.used.now) half ∙ sym c.is_marked.ensures ∙ c.if-not-is_marked.false in
    rw e (c.put_all.ensures.0 ∙ c.put_name.ensures.0, c.put_all.ensures.1 ∙ rw (c.put_name.ensures.1, c.from-address.ensures) (simp (joined, append_snoc)))
