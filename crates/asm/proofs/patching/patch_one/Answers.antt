-- Where the entry waits for the name its word is put, or refused; else it is kept. Assumes nothing.
use mathlib.Core.Path.{◌∙◌, ap, sym}
use mathlib.Core.List.{List}
use Prim.Native.Nat.{ℕ}
use Rattle.std.proofs.lemmas.Result.{err_from_is_err_and}
use Rattle.base.specs.Told.{is}
use Rattle.asm.specs.Views.{kept_of}
use Rattle.asm.specs.Words.{word_of}
use Rattle.asm.proofs.PatchLaws.{patch-hit, patch-miss, patch-refused}
use Rattle.asm.proofs.patching.patch_one.Goals as goal

pub returns-in_err-w : goal.returns-in_err-w
returns-in_err-w c =
    let a = c.args in
    let p = err_from_is_err_and c.from_residual.result c.from_residual.ensures.1 in
    rw (p.1, p.2) (patch-refused a.rules.strict a.text.now a.name.now a.address.0 a.i a.kept a.words.now a.opens.now
    (sym c.names.ensures ∙ c.if-names.true) _ (c.in_err-w.ensures ∙ ap (word_of a.rules.strict) c.resolved.ensures))

pub returns-then-names : goal.returns-then-names
returns-then-names c =
    let a = c.args in
    ap (λ (ws : List ℕ). is (kept_of a.kept ws a.opens.now)) c.put_word.ensures ∙
    patch-hit a.rules.strict a.text.now a.name.now a.address.0 a.i a.kept a.words.now a.opens.now
    (sym c.names.ensures ∙ c.if-names.true) c.in_ok-w.w (c.in_ok-w.ensures ∙ ap (word_of a.rules.strict) c.resolved.ensures)

pub returns : goal.returns
returns c =
    let a = c.args in
    patch-miss a.rules.strict a.text.now a.name.now a.address.0 a.i a.kept a.words.now a.opens.now (sym c.names.ensures ∙ c.if-names.false)
