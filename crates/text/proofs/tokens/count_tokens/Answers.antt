use Rattle.std.proofs.Common.{◌<◌, ◌∙◌, length, sym, arith}
use Rattle.text.proofs.TokenLaws.{ends-no, ends-yes}
use Rattle.text.proofs.tokens.count_tokens.Goals as goal
use Rattle.text.proofs.tokens.count_tokens.Goals.{then-ends_word, else-ends_word}

pub loop-i-preserved : goal.loop-i-preserved
loop-i-preserved c =
    let s = c.args.s.now in
    let h : c.loop-i.i < length s = omega arith in
    elim c.if-ends_word.branch [
      | then-ends_word w ↦ (omega arith, omega (arith, ends-yes s c.loop-i.i h (sym c.ends_word.ensures ∙ w.if-ends_word.true)))
      | else-ends_word w ↦ (omega arith, omega (arith, ends-no s c.loop-i.i h (sym c.ends_word.ensures ∙ w.if-ends_word.false)))
    ]
