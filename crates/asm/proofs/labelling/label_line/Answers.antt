-- The label has its place in the table or a new one, and the references to it are patched; the first refusal counts. Assumes nothing.
use Prim.Native.Nat.{◌+◌, ◌-◌, ℕ}
use lib.ListN.{drop, length, take}
use mathlib.Core.Bool.{Bool}
use mathlib.Core.List.{List}
use mathlib.Core.Path.{◌∙◌, ◌≡◌, ap}
use native.Mathlib.Nat.{add-sub_cancel_left}
use Rattle.std.specs.Prelude.{Ok, Err}
use Rattle.std.proofs.lemmas.Result.{err_from_is_err_and}
use Rattle.base.specs.Told.{Told}
use Rattle.base.specs.Words.{doubled}
use Rattle.labels.specs.Labels.{label}
use Rattle.labels.specs.declared.Open.{Open}
use Rattle.asm.specs.Labels.{Patched, part, patch}
use Rattle.asm.specs.Work.{task}
use Rattle.asm.proofs.LabelLaws.{define-used}
use Rattle.asm.proofs.TurnLaws.{turn-label, turn-label-full, turn-label-stuck}
use Rattle.asm.proofs.labelling.label_line.Goals as goal

-- the name is the part of the text, and the address the number of the next instruction doubled
named : (strict : Bool) (text : List ℕ) (place size here address : ℕ) (waiting : List Open) (words : List ℕ) (x : Told Patched) → address ≡ doubled here →
    x ≡ patch strict text (take (place + size - place) (drop place text)) address waiting words → x ≡ patch strict text (part text place size) (doubled here) waiting words
named strict text place size here address waiting words x e q =
    q ∙ ap (λ (n : ℕ). patch strict text (take n (drop place text)) address waiting words) (add-sub_cancel_left place size)
    ∙ ap (λ (n : ℕ). patch strict text (part text place size) n waiting words) e

pub returns-in_err-labels-clause-opens_after : goal.returns-in_err-labels-clause-opens_after
returns-in_err-labels-clause-opens_after c = λ ls room e.
    let a = c.args in
    let l = label a.place a.size (doubled a.n.words.0) in
    let p = err_from_is_err_and c.from_residual.result c.from_residual.ensures.1 in
    rw (p.1, p.2) (turn-label-full (task a.rules.strict a.text.now (length a.words.now) a.most) a.place a.size a.n a.words.now ls a.opens.now c.requires.within.0 _
    (define-used a.n.labels a.most c.requires.within.2 a.text.now ls l room a.f e (Err c.in_err-labels.field-0.0) c.in_err-labels.ensures))

pub returns-in_err-waiting-clause-opens_after : goal.returns-in_err-waiting-clause-opens_after
returns-in_err-waiting-clause-opens_after c = λ ls room e.
    let a = c.args in
    let l = label a.place a.size (doubled a.n.words.0) in
    let p = err_from_is_err_and c.from_residual-in_err-waiting.result c.from_residual-in_err-waiting.ensures.1 in
    rw (p.1, p.2) (turn-label-stuck (task a.rules.strict a.text.now (length a.words.now) a.most) a.place a.size a.n a.words.now ls a.opens.now c.requires.within.0 _ _
    (define-used a.n.labels a.most c.requires.within.2 a.text.now ls l room a.f e (Ok c.in_ok-labels.labels) c.in_ok-labels.ensures)
    (named a.rules.strict a.text.now a.place a.size a.n.words.0 c.from-here.result.0 (take a.n.waiting a.opens.now) a.words.now _ c.from-here.ensures c.in_err-waiting.ensures.opens_after))

pub returns-clause-opens_after : goal.returns-clause-opens_after
returns-clause-opens_after c = λ ls room e.
    let a = c.args in
    let l = label a.place a.size (doubled a.n.words.0) in
    turn-label (task a.rules.strict a.text.now (length a.words.now) a.most) a.place a.size a.n a.words.now ls a.opens.now c.requires.within.0 _ _ _
    (define-used a.n.labels a.most c.requires.within.2 a.text.now ls l room a.f e (Ok c.in_ok-labels.labels) c.in_ok-labels.ensures)
    (named a.rules.strict a.text.now a.place a.size a.n.words.0 c.from-here.result.0 (take a.n.waiting a.opens.now) a.words.now _ c.from-here.ensures c.in_ok-waiting.ensures.opens_after)
