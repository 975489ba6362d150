-- As many bytes are added as there is room for. Assumes nothing.
use Rattle.std.proofs.Common.{rules, ◌≡◌, ◌∙◌, ◌++◌, ℕ, ap}
use Rattle.std.specs.Prelude.{take}
use Rattle.printer.proofs.LineLaws.{all}
use Rattle.printer.proofs.lines.Line.add.Goals as goal

pub returns : goal.returns
returns c =
    let line = c.args.self.now.text.items in
    let whole : c.loop-b.b-index ≡ c.min-n.result = search rules in
    c.loop-b.invariant ∙ ap (λ (k : ℕ). line ++ take k c.args.s.now) whole
    ∙ all line c.args.s.now c.remaining_capacity.result c.min-n.result c.remaining_capacity.ensures c.min-n.ensures
