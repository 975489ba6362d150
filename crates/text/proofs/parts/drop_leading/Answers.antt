-- The first other byte is looked for.
use Rattle.std.proofs.Common.{rules, ◌∙◌, ℕ, drop, not, ap}
use Rattle.std.proofs.lemmas.Iterator.Search.{position_from_yields_List}
use Rattle.std.proofs.lemmas.Iterator.{YieldsList-from_slice}
use Rattle.text.specs.Parts.{equals}
use Rattle.text.proofs.PartLaws.{run_while, rest}
use Rattle.text.proofs.parts.drop_leading.Goals as goal

pub returns : goal.returns
returns c =
    let s = c.args.s.now in
    let p = equals c.args.b in
    let r = position_from_yields_List (λ x. not (p x)) _ _ _ c.position.ensures.ran (YieldsList-from_slice s cc) (λ x b q h. search rules) in
    rest c.unwrap_or-n.result s ∙ ap (λ (k : ℕ). drop k s) (c.unwrap_or-n.ensures ∙ run_while p s r)
