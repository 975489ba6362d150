-- Those kept and those still to come, patched, are what all of them patched come to. Assumes nothing.
use Prim.Native.Nat.{ℕ, ◌≤◌}
use lib.ListN.{length}
use mathlib.Core.Path.{◌∙◌, ◌≡◌, ap}
use native.Mathlib.Omega.{arith}
use Rattle.std.proofs.lemmas.Result.{err_from_is_err_and}
use Rattle.asm.proofs.PatchLaws.{left-to-patch, patch-end, patch-go, patch-kept, patch-stop}
use Rattle.asm.specs.Views.{kept_of}
use Rattle.asm.proofs.patching.patch.Goals as goal

pub returns-in_err-kept-clause-opens_after : goal.returns-in_err-kept-clause-opens_after
returns-in_err-kept-clause-opens_after c =
    let a = c.args in
    let l = c.loop-i in
    let m : a.count ≤ length l.opens = omega (arith, l.auto.opens, c.requires.count_in_bounds) in
    let p = err_from_is_err_and c.from_residual.result c.from_residual.ensures.1 in
    rw (p.1, p.2) (patch-stop a.rules.strict a.text.now a.name.now a.address.0 a.count l.i l.kept l.opens l.words c.loop-i-test.true m l.invariant.0 _ c.in_err-kept.ensures
    ∙ l.invariant.1)

pub loop-i-preserved : goal.loop-i-preserved
loop-i-preserved c =
    let a = c.args in
    let l = c.loop-i in
    let m : a.count ≤ length l.opens = omega (arith, l.auto.opens, c.requires.count_in_bounds) in
    let s = kept_of c.in_ok-kept.kept c.patch_one.new.words c.patch_one.new.opens in (
      patch-kept a.rules.strict a.text.now a.name.now a.address.0 a.count l.i l.kept l.opens l.words c.loop-i-test.true m l.invariant.0 s c.in_ok-kept.ensures,
      patch-go a.rules.strict a.text.now a.name.now a.address.0 a.count l.i l.kept l.opens l.words c.loop-i-test.true m l.invariant.0 s c.in_ok-kept.ensures
          ∙ l.invariant.1,
    )

pub returns-clause-opens_after : goal.returns-clause-opens_after
returns-clause-opens_after c =
    let a = c.args in
    let l = c.loop-i in
    let i : a.count ≡ l.i = omega (arith, c.loop-i-test.false, l.auto.i-end) in
    patch-end a.rules.strict a.text.now a.name.now a.address.0 a.count l.kept l.opens l.words
    ∙ ap (λ (j : ℕ). left-to-patch a.rules.strict a.text.now a.name.now a.address.0 a.count j l.kept l.opens l.words) i ∙ l.invariant.1
