use Rattle.std.proofs.Common.{◌∙◌, ℕ, drop, sym, ap, arith}
use Rattle.std.proofs.Math.Seq.{drop-drop}
use Rattle.text.proofs.TokenLaws.{tail-drop, tok-tail}
use Rattle.text.specs.Tokens.{others, past_first, tokens}
use Rattle.text.proofs.tokens.token.Goals as goal

pub loop-i-preserved : goal.loop-i-preserved
loop-i-preserved c =
    let s = c.args.line.now in
    let a = c.loop-i.at in (
      omega arith,
      ap (λ (k : ℕ). tokens (drop k s)) c.past_token-at.ensures.0 ∙ ap tokens (sym (drop-drop (past_first (drop a s)) a s)) ∙
          sym (tok-tail (drop a s)) ∙ ap others c.loop-i.invariant.1 ∙ tail-drop (tokens s) c.loop-i._i,
    )
