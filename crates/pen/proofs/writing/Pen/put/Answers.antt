-- A byte past the end of the buffer leaves it as it was, as a write there does in the definition. Assumes nothing.
use mathlib.Core.Path.{refl, ap, sym, ◌∙◌}
use native.Mathlib.Omega.{arith}
use lib.Seq.{set_out}
use Rattle.pen.proofs.PenLaws.{put-once}
use Rattle.pen.specs.declared.writing.Pen.{Pen}
use Rattle.pen.proofs.writing.Pen.put.Goals.{then-self, else-self}
use Rattle.pen.proofs.writing.Pen.put.Goals as goal

pub returns : goal.returns
returns c =
    let p = c.args.self.now in
    let q = c.if-self.self in
    elim c.if-self.branch [
      | then-self w ↦ (
        ap (λ (s : Pen). s.out.ghost_name) w.self-is,
        put-once p.out.now p.at c.args.b q.out.now c.saturating_add-self.result (omega arith) (omega arith)
            (ap (λ (s : Pen). s.out.now) w.self-is) (c.saturating_add-self.ensures ∙ rw w.self-is refl),
      )
      | else-self w ↦ (
        ap (λ (s : Pen). s.out.ghost_name) w.self-is,
        put-once p.out.now p.at c.args.b q.out.now c.saturating_add-self.result (omega arith) (omega arith)
            (ap (λ (s : Pen). s.out.now) w.self-is ∙ sym (set_out p.out.now p.at c.args.b w.if-self.false)) (c.saturating_add-self.ensures ∙ rw w.self-is refl),
      )
    ]
