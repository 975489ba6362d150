-- The first byte that ends a line is looked for.
use Rattle.std.proofs.Common.{rules, arith, ◌∙◌, ℕ, eqb}
use Rattle.std.proofs.lemmas.Iterator.Search.{position_from_yields_List}
use Rattle.std.proofs.lemmas.Iterator.{YieldsList-from_slice}
use Rattle.text.specs.Lines.{not_end}
use Rattle.text.proofs.PartLaws.{run_until, run-le}
use Rattle.text.proofs.lines.line.Goals as goal

pub returns : goal.returns
returns c =
    let s = c.args.s.now in
    let r = position_from_yields_List (λ (x : ℕ). eqb x 10) _ _ _ c.position.ensures.ran (YieldsList-from_slice s cc) (λ x b q h. search rules) in
    let e = run_until (λ (x : ℕ). eqb x 10) s r in
    (c.unwrap_or.ensures ∙ e, omega (arith, c.unwrap_or.ensures, e, run-le not_end s))
