use Rattle.std.proofs.Common.{◌-◌, ◌∙◌, ◌≡◌, ℕ, List, drop, take, sym, ap, arith}
use Rattle.std.proofs.Math.Seq.{drop-drop}
use Rattle.text.proofs.TokenLaws.{tok-head}
use Rattle.text.specs.Parts.{drop_front, is_blank, not_blank, run}
use Rattle.text.proofs.tokens.token_from.Goals as goal

pub returns : goal.returns
returns c =
    let s = c.args.line.now in
    let a = c.past_blanks-a.result in
    let n = run not_blank (drop a s) in
    let ea : drop a s ≡ drop_front is_blank (drop c.args.at s) = ap (λ (k : ℕ). drop k s) c.past_blanks-a.ensures.0 ∙ sym (drop-drop _ c.args.at s) in
    let en : c.past_word-e.result - a ≡ n = omega arith in
    ap (λ (k : ℕ). take k (drop a s)) en ∙ ap (λ (l : List ℕ). take (run not_blank l) l) ea ∙ sym (tok-head (drop c.args.at s))
