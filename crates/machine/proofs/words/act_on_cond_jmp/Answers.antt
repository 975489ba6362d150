-- What the decoder's own function decides of the operand is the row of 5. Assumes nothing.
use mathlib.Core.Path.{◌≡◌, sym, ap, ◌∙◌}
use Rattle.instruction.specs.Decode.{operand_at, conditional}
use Rattle.instruction.specs.declared.Instruction.TheVariants.{Jmp, CondJmp}
use Rattle.instruction.proofs.OpcodeLaws.{decode-cond-jmp}
use Rattle.machine.specs.Acts.{act}
use Rattle.machine.specs.Plan.{decoded}
use Rattle.machine.proofs.words.act_on_cond_jmp.Goals as goal

pub returns-then-jumps_always : goal.returns-then-jumps_always
unfolding decoded act
returns-then-jumps_always c = let w = c.args.w in
    let o = c.operand_at-o.result in
    let d : conditional (operand_at w 4 11) ≡ conditional o = sym (ap conditional c.operand_at-o.ensures) in
    let e : conditional o ≡ Jmp o = rw (sym c.jumps_always.ensures ∙ c.if-jumps_always.true) in
    λ mode map b. c.jmp.ensures ∙ rw (decode-cond-jmp w c.requires, d, e)

pub returns-else-jumps_always : goal.returns-else-jumps_always
unfolding decoded act
returns-else-jumps_always c = let w = c.args.w in
    let o = c.operand_at-o.result in
    let d : conditional (operand_at w 4 11) ≡ conditional o = sym (ap conditional c.operand_at-o.ensures) in
    let e : conditional o ≡ CondJmp o = rw (sym c.jumps_always.ensures ∙ c.if-jumps_always.false) in
    λ mode map b. c.cond_jmp.ensures ∙ rw (decode-cond-jmp w c.requires, d, e)
