-- 26 is asked first; then what the line's tokens say, with what the second one stands for where they refer to a label. Assumes nothing.
use Prim.Native.Nat.{ℕ}
use borrow.Author.Tests.{eq-eqb, ne_eqb}
use mathlib.Core.List.{List}
use mathlib.Core.Path.{◌∙◌, ◌≡◌, ap, sym}
use Rattle.std.proofs.lemmas.Result.{err_from_is_err_and}
use Rattle.std.specs.Prelude.{Ok}
use Rattle.base.specs.Numbers.{number_of}
use Rattle.base.specs.Told.{Told, is, no}
use Rattle.labels.specs.declared.Label.{Label}
use Rattle.parser.specs.Answers.{Meaning, told, says, refers}
use Rattle.parser.specs.Parse.{parse}
use Rattle.parser.specs.declared.Parsed.{Parsed}
use Rattle.single.specs.Single.{known, meant, single}
use Rattle.text.specs.Lines.{foreign_line}
use Rattle.text.specs.Tokens.{token_at, tokens}
use Rattle.single.proofs.lines.parse_known.Goals as goal

-- in a line with no foreign byte: what the line's tokens say
meaning : (line text : List ℕ) (labels : List Label) (m : Told Meaning) → foreign_line 1 line ≡ 0 → m ≡ parse (tokens line) → meant text labels m ≡ single line text labels
unfolding single
meaning line text labels m ascii e =
    let whole : meant text labels (parse (tokens line)) ≡ single line text labels = rw (eq-eqb (foreign_line 1 line) 0 ascii) in
    ap (meant text labels) e ∙ whole

pub returns-then-foreign_line-ne0 : goal.returns-then-foreign_line-ne0
unfolding single
returns-then-foreign_line-ne0 c =
    let line = c.args.line.now in
    let foreign : foreign_line 1 line ≡ 0 → ⊥ = λ e. c.if-foreign_line-ne0.true (c.foreign_line.ensures ∙ e) in
    λ text labels e. rw (ne_eqb (foreign_line 1 line) 0 foreign)

pub returns-in_err-i : goal.returns-in_err-i
returns-in_err-i c =
    let line = c.args.line.now in
    let ascii : foreign_line 1 line ≡ 0 = sym c.foreign_line.ensures ∙ c.if-foreign_line-ne0.false in
    let p = err_from_is_err_and c.from_residual.result c.from_residual.ensures.1 in
    λ text labels k. rw (p.1, p.2) (meaning line text labels (no (number_of c.in_err-i.field-0.0)) ascii c.in_err-i.ensures)

pub returns-in-Is : goal.returns-in-Is
returns-in-Is c =
    let line = c.args.line.now in
    let ascii : foreign_line 1 line ≡ 0 = sym c.foreign_line.ensures ∙ c.if-foreign_line-ne0.false in
    λ text labels k. meaning line text labels (is (says c.in-Is.i)) ascii (sym (ap (λ (x : Parsed). told (Ok x) (token_at line 1)) c.in-Is.is) ∙ c.in_ok-i.ensures)

pub returns-in-Refers : goal.returns-in-Refers
returns-in-Refers c =
    let line = c.args.line.now in
    let ascii : foreign_line 1 line ≡ 0 = sym c.foreign_line.ensures ∙ c.if-foreign_line-ne0.false in
    λ text labels k. c.referred.ensures ∙ ap (known c.in-Refers.r) k ∙ meaning line text labels (is (refers c.in-Refers.r (token_at line 1))) ascii (sym (ap (λ (x : Parsed). told (Ok x) (token_at line 1)) c.in-Refers.is) ∙ c.in_ok-i.ensures)
