-- A comparison below 6 is the row's, and the others are refused with 5. Assumes nothing.
use Prim.Native.Nat.{◌<◌, ◌≤◌}
use mathlib.Core.Path.{◌∙◌}
use Rattle.fields.specs.Fields.{field_of}
use Rattle.instruction.proofs.OpcodeLaws.{decode-cmp, decode-bad-compare}
use Rattle.machine.specs.Acts.{act}
use Rattle.machine.specs.Plan.{decoded}
use Rattle.machine.proofs.words.act_on_cmp.Goals as goal

pub returns-then-k-lt6 : goal.returns-then-k-lt6
unfolding decoded act
returns-then-k-lt6 c = let f = c.field-k.ensures in
    let h : field_of c.args.w 7 3 < 6 = rw (← f) c.if-k-lt6.true in
    λ mode map b. c.cmp.ensures ∙ rw (c.register_at.ensures, c.operand_at.ensures, c.compare_of.ensures, f, decode-cmp c.args.w c.requires h)

pub returns-else-k-lt6 : goal.returns-else-k-lt6
unfolding decoded
returns-else-k-lt6 c = let h : 6 ≤ field_of c.args.w 7 3 = rw (← c.field-k.ensures) c.if-k-lt6.false in
    λ mode map b. rw (decode-bad-compare c.args.w c.requires h)
