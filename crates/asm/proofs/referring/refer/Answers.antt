-- A label that was found gives its address, and the instruction is one word more; else the reference is opened. Assumes nothing.
use Prim.Native.Nat.{ℕ}
use lib.ListN.{length}
use lib.Seq.{length-take-le}
use mathlib.Core.Path.{◌∙◌, ap, refl, sym}
use Rattle.std.proofs.lemmas.Result.{err_from_is_err_and}
use Rattle.instruction.specs.declared.Instruction.{Instruction}
use Rattle.labels.specs.Opens.{open_to}
use Rattle.asm.specs.Views.{work_of}
use Rattle.asm.specs.Work.{opens, says, task}
use Rattle.asm.proofs.TurnLaws.{turn-known, turn-says, turn-says-refused, turn-unknown}
use Rattle.asm.proofs.referring.refer.Goals as goal

pub returns-in_err-next-in-Some-clause-by_index : goal.returns-in_err-next-in-Some-clause-by_index
returns-in_err-next-in-Some-clause-by_index c = λ text ls most e.
    let a = c.args in
    let t = task a.rules.strict text (length a.words.now) most in
    let w = work_of a.n a.words.now ls a.opens.now in
    let p = err_from_is_err_and c.from_residual.result c.from_residual.ensures.1 in
    rw (p.1, p.2) (turn-says-refused t c.resolved-i.result a.n a.words.now ls a.opens.now _ c.in_err-next-in-Some.ensures.words_after
    ∙ ap (λ (i : Instruction). says t i w) c.resolved-i.ensures ∙ turn-known t a.reference a.place a.size w c.in-Some.found (sym c.in-Some.is ∙ e))

pub returns-in_ok-next-in-Some-clause-by_index : goal.returns-in_ok-next-in-Some-clause-by_index
returns-in_ok-next-in-Some-clause-by_index c = λ text ls most e.
    let a = c.args in
    let t = task a.rules.strict text (length a.words.now) most in
    let w = work_of a.n a.words.now ls a.opens.now in
    turn-says t c.resolved-i.result a.n a.words.now ls a.opens.now _ c.in_ok-next-in-Some.ensures.words_after
    ∙ ap (λ (i : Instruction). says t i w) c.resolved-i.ensures ∙ turn-known t a.reference a.place a.size w c.in-Some.found (sym c.in-Some.is ∙ e)

pub returns-in-None-clause-by_index : goal.returns-in-None-clause-by_index
returns-in-None-clause-by_index c = λ text ls most e.
    let a = c.args in
    let t = task a.rules.strict text (length a.words.now) most in
    let w = work_of a.n a.words.now ls a.opens.now in
    c.open_reference.ensures.opens_after t ls refl
    ∙ ap (λ (x : ℕ). opens t (open_to a.place a.size x a.reference) w) (sym (length-take-le a.n.words.0 a.words.now c.requires.words_in_bounds.0))
    ∙ turn-unknown t a.reference a.place a.size w (sym c.in-None.is ∙ e)
