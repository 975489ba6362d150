-- The first byte over 127 is looked for, and the line ends before it counted. Assumes nothing.
use Rattle.std.proofs.Common.{◌≡◌, ◌∙◌, not, rules, sym, arith, Some}
use Rattle.std.specs.Prelude.{position}
use Rattle.std.proofs.lemmas.Iterator.Search.{position_from_yields_List}
use Rattle.std.proofs.lemmas.Iterator.{YieldsList-from_slice}
use Rattle.reader.proofs.LineLaws.{low, foreign_past, foreign_at}
use Rattle.reader.proofs.foreign.foreign_line.Goals as goal

pub returns-in-Some : goal.returns-in-Some
returns-in-Some c =
    let s = c.args.text.now in
    let r = position_from_yields_List (λ x. not (low x)) _ _ c.position.result c.position.ensures.ran (YieldsList-from_slice s cc) (λ x b q h. search rules) in
    let e : position (λ x. not (low x)) s ≡ Some c.in-Some.i = sym r ∙ c.in-Some.is in
    omega (arith, c.ends.ensures, foreign_at s 1 c.in-Some.i e)

pub returns-in-None : goal.returns-in-None
returns-in-None c =
    let s = c.args.text.now in
    let r = position_from_yields_List (λ x. not (low x)) _ _ c.position.result c.position.ensures.ran (YieldsList-from_slice s cc) (λ x b q h. search rules) in
    sym (foreign_past s 1 (sym r ∙ c.in-None.is))
