-- One word more, and one reference more; the first refusal counts. Assumes nothing.
use Prim.Native.Nat.{ℕ}
use lib.ListN.{take}
use mathlib.Core.Path.{◌∙◌, ap, sym}
use Rattle.std.proofs.lemmas.Result.{err_from_is_err_and}
use Rattle.labels.specs.Opens.{open_to}
use Rattle.labels.specs.declared.Open.{Open}
use Rattle.asm.specs.Labels.{add_open}
use Rattle.asm.specs.Words.{add_word}
use Rattle.asm.proofs.TurnLaws.{turn-opens, turn-opens-many, turn-opens-full}
use Rattle.asm.proofs.referring.open_reference.Goals as goal

pub returns-in_err-next-clause-opens_after : goal.returns-in_err-next-clause-opens_after
returns-in_err-next-clause-opens_after c = λ t labels room.
    let a = c.args in
    let p = err_from_is_err_and c.from_residual.result c.from_residual.ensures.1 in
    rw (p.1, p.2) (turn-opens-full t (open_to a.place a.size a.n.words.0 a.reference) a.n a.words.now labels a.opens.now _
    (c.in_err-next.ensures.words_after ∙ ap (λ (k : ℕ). add_word k 0 (take a.n.words.0 a.words.now)) (sym room)))

pub returns-in_err-waiting-clause-opens_after : goal.returns-in_err-waiting-clause-opens_after
returns-in_err-waiting-clause-opens_after c = λ t labels room.
    let a = c.args in
    let p = err_from_is_err_and c.from_residual-in_err-waiting.result c.from_residual-in_err-waiting.ensures.1 in
    rw (p.1, p.2) (turn-opens-many t (open_to a.place a.size a.n.words.0 a.reference) a.n a.words.now labels a.opens.now _ _
    (c.in_ok-next.ensures.words_after ∙ ap (λ (k : ℕ). add_word k 0 (take a.n.words.0 a.words.now)) (sym room))
    (c.in_err-waiting.ensures.opens_after ∙ ap (λ (o : Open). add_open o (take a.n.waiting a.opens.now)) c.new-o.ensures))

pub returns-clause-opens_after : goal.returns-clause-opens_after
returns-clause-opens_after c = λ t labels room.
    let a = c.args in
    turn-opens t (open_to a.place a.size a.n.words.0 a.reference) a.n a.words.now labels a.opens.now _ _
    (c.in_ok-next.ensures.words_after ∙ ap (λ (k : ℕ). add_word k 0 (take a.n.words.0 a.words.now)) (sym room))
    (c.in_ok-waiting.ensures.opens_after ∙ ap (λ (o : Open). add_open o (take a.n.waiting a.opens.now)) c.new-o.ensures)
