-- The first byte that is no blank is looked for.
use Rattle.std.proofs.Common.{rules, arith, ◌∙◌, not}
use Rattle.std.proofs.lemmas.Iterator.Search.{position_from_yields_List}
use Rattle.std.proofs.lemmas.Iterator.{YieldsList-from_slice}
use Rattle.text.specs.Parts.{is_blank}
use Rattle.text.proofs.PartLaws.{run_while, run-le}
use Rattle.text.proofs.blanks.blanks.Goals as goal

pub returns : goal.returns
returns c =
    let s = c.args.s.now in
    let r = position_from_yields_List (λ x. not (is_blank x)) _ _ _ c.position.ensures.ran (YieldsList-from_slice s cc) (λ x b q h. search rules) in
    let e = run_while is_blank s r in
    (c.unwrap_or.ensures ∙ e, omega (arith, c.unwrap_or.ensures, e, run-le is_blank s))
