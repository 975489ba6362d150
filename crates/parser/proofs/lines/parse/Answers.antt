-- The tokens are counted, the first one says the kind, and the kind how many operands there may be. Assumes nothing.
use Rattle.std.proofs.Common.{◌≡◌, ◌∙◌, length, ap, sym, arith}
use Rattle.std.proofs.lemmas.Grind.{common_steps}
use Rattle.mnemonics.specs.Mnemonics.{kind_of}
use Rattle.text.specs.Tokens.{tokens}
use Rattle.parser.proofs.OperandLaws.{parse_none, parse_some}
use Rattle.parser.proofs.lines.parse.Goals as goal

pub returns-then-count-eq0 : goal.returns-then-count-eq0
returns-then-count-eq0 c =
    let none : length (tokens c.args.line.now) ≡ 0 = sym c.count_tokens-count.ensures ∙ c.if-count-eq0.true in
    sym (parse_none (tokens c.args.line.now) none)

pub returns-in_err-kind : goal.returns-in_err-kind
returns-in_err-kind c =
    let s = c.args.line.now in
    let some : length (tokens s) ≡ 0 → ⊥ = λ e. c.if-count-eq0.false (c.count_tokens-count.ensures ∙ e) in
    let k = parse_some s c.kind_of.result some (c.kind_of.ensures ∙ ap kind_of c.token.ensures) in
    grind (arith, common_steps)

pub returns-then-not-takes : goal.returns-then-not-takes
returns-then-not-takes c =
    let s = c.args.line.now in
    let some : length (tokens s) ≡ 0 → ⊥ = λ e. c.if-count-eq0.false (c.count_tokens-count.ensures ∙ e) in
    let k = parse_some s c.kind_of.result some (c.kind_of.ensures ∙ ap kind_of c.token.ensures) in
    grind (arith, common_steps)

pub returns : goal.returns
returns c =
    let s = c.args.line.now in
    let some : length (tokens s) ≡ 0 → ⊥ = λ e. c.if-count-eq0.false (c.count_tokens-count.ensures ∙ e) in
    let k = parse_some s c.kind_of.result some (c.kind_of.ensures ∙ ap kind_of c.token.ensures) in
    grind (arith, common_steps)
