-- The blanks at both ends are dropped, and what is left is read. Assumes nothing.
use Prim.Native.Nat.{ℕ, ◌-◌, ◌≤◌}
use borrow.Author.Tests.{eqb-true, eqb-false}
use lib.ListN.{drop, length, length-drop, take}
use mathlib.Core.List.{List}
use mathlib.Core.Path.{◌∙◌, ◌≡◌, ap, sym}
use native.Mathlib.Omega.{arith}
use Rattle.std.proofs.lemmas.Result.{IfOk-weaker}
use Rattle.asm.proofs.ReadLaws.{read-empty}
use Rattle.asm.specs.Reading.{read, read_trimmed}
use Rattle.text.proofs.PartLaws.{end-le, rest}
use Rattle.text.specs.Parts.{drop_end, drop_front, is_blank, run}
use Rattle.asm.proofs.reading.read_line.Goals as goal

-- what is left of the line, from the place on that is past its blanks
trimmed : (line now : List ℕ) (a : ℕ) → a ≡ run is_blank line → now ≡ drop_end is_blank (take (length line - a) (drop a line)) → now ≡ drop_end is_blank (drop_front is_blank line)
trimmed line now a start e = e ∙ ap (drop_end is_blank) (rest a line ∙ ap (λ (n : ℕ). drop n line) start)

within : (line now : List ℕ) (a : ℕ) → a ≡ run is_blank line → now ≡ drop_end is_blank (take (length line - a) (drop a line)) → length now ≤ length line - a
within line now a start e = omega (arith, ap length (trimmed line now a start e), end-le is_blank (drop_front is_blank line), length-drop (run is_blank line) line, start)

pub returns-then-is_empty-clause-result_value : goal.returns-then-is_empty-clause-result_value
unfolding read
returns-then-is_empty-clause-result_value c =
    let start : c.past_blanks-a.result ≡ run is_blank c.args.line.now = omega (arith, c.past_blanks-a.ensures.0) in
    let line = c.args.line.now in
    let t = trimmed line c.trim_end-t.result.now c.past_blanks-a.result start c.trim_end-t.ensures in
    read-empty (run is_blank line) (drop_end is_blank (drop_front is_blank line)) (sym (ap length t) ∙ eqb-true _ _ (sym c.is_empty.ensures ∙ c.if-is_empty.true))

pub read_some-requires : goal.read_some-requires
read_some-requires c =
    let start : c.past_blanks-a.result ≡ run is_blank c.args.line.now = omega (arith, c.past_blanks-a.ensures.0) in
    let fits = within c.args.line.now c.trim_end-t.result.now c.past_blanks-a.result start c.trim_end-t.ensures in
    let some : ◌≡◌ (length c.trim_end-t.result.now) 0 → ⊥ = eqb-false (length c.trim_end-t.result.now) 0 (sym c.is_empty.ensures ∙ c.if-is_empty.false) in
    (omega (arith, some), omega (arith, fits, c.past_blanks-a.ensures.1))

pub returns-clause-result_value : goal.returns-clause-result_value
unfolding read
returns-clause-result_value c =
    let start : c.past_blanks-a.result ≡ run is_blank c.args.line.now = omega (arith, c.past_blanks-a.ensures.0) in
    let line = c.args.line.now in
    let now = c.trim_end-t.result.now in
    let t = trimmed line now c.past_blanks-a.result start c.trim_end-t.ensures in
    c.read_some.ensures.result_value ∙ ap (λ (n : ℕ). read_trimmed n now) start ∙ ap (read_trimmed (run is_blank line)) t

pub returns-clause-result_in_bounds : goal.returns-clause-result_in_bounds
returns-clause-result_in_bounds c =
    let start : c.past_blanks-a.result ≡ run is_blank c.args.line.now = omega (arith, c.past_blanks-a.ensures.0) in
    let fits = within c.args.line.now c.trim_end-t.result.now c.past_blanks-a.result start c.trim_end-t.ensures in
    IfOk-weaker c.read_some.result _ _ (λ l h. omega (arith, h, fits, c.past_blanks-a.ensures.1)) c.read_some.ensures.result_bound
