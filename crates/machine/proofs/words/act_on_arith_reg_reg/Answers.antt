-- An operator below 7 is the row's, and 7 is refused with 6. Assumes nothing.
use Prim.Native.Nat.{◌<◌, ◌≤◌}
use mathlib.Core.Path.{◌∙◌}
use Rattle.fields.specs.Fields.{field_of}
use Rattle.instruction.proofs.OpcodeLaws.{decode-arith-reg-reg, decode-bad-arith}
use Rattle.machine.specs.Acts.{act}
use Rattle.machine.specs.Plan.{decoded}
use Rattle.machine.proofs.words.act_on_arith_reg_reg.Goals as goal

pub returns-then-k-lt7 : goal.returns-then-k-lt7
unfolding decoded act
returns-then-k-lt7 c = let f = c.field-k.ensures in
    let h : field_of c.args.w 7 3 < 7 = rw (← f) c.if-k-lt7.true in
    λ mode map b. c.arith_reg_reg.ensures ∙ rw (c.register_at.ensures, c.register_at-then-k-lt7.ensures, c.register_at-then-k-lt7-2.ensures, c.arithmetic_of.ensures, f, decode-arith-reg-reg c.args.w c.requires h)

pub returns-else-k-lt7 : goal.returns-else-k-lt7
unfolding decoded
returns-else-k-lt7 c = let h : 7 ≤ field_of c.args.w 7 3 = rw (← c.field-k.ensures) c.if-k-lt7.false in
    λ mode map b. rw (decode-bad-arith c.args.w c.requires h)
