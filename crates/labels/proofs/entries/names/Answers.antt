-- A name of another length is another name, and an entry that runs past the text names nothing; else the two parts are compared. Assumes nothing.
use Prim.Native.Nat.{ℕ, ◌+◌, ◌-◌, ◌≤◌, ◌<◌}
use mathlib.Core.Path.{◌≡◌, sym, ap, ◌∙◌}
use native.Mathlib.Omega.{arith}
use lib.ListN.{length, take, drop}
use Rattle.base.specs.Bytes.{same}
use Rattle.labels.proofs.NameLaws.{names-other, names-past, names-within}
use Rattle.labels.proofs.entries.names.Goals as goal

pub returns-then-size-name : goal.returns-then-size-name
returns-then-size-name c = sym (names-other c.args.text.now c.args.name.now c.args.place c.args.size c.if-size-name.true)

pub returns-then-text-place : goal.returns-then-text-place
returns-then-text-place c = let h : length c.args.text.now < c.args.place + c.args.size = omega (arith, c.if-text-place.true) in
    sym (names-past c.args.text.now c.args.name.now c.args.place c.args.size h)

pub returns-then-text-place-2 : goal.returns-then-text-place-2
returns-then-text-place-2 c = let h : length c.args.text.now < c.args.place + c.args.size = omega (arith, c.if-text-place-2.true, c.if-text-place.false) in
    sym (names-past c.args.text.now c.args.name.now c.args.place c.args.size h)

pub returns : goal.returns
returns c = let h : c.args.place + c.args.size ≤ length c.args.text.now = omega (arith, c.if-text-place-2.false, c.if-text-place.false) in
    let e : c.args.place + c.args.size - c.args.place ≡ c.args.size = omega arith in
    c.same.ensures ∙ ap (λ (k : ℕ). same (take k (drop c.args.place c.args.text.now)) c.args.name.now) e ∙ sym (names-within c.args.text.now c.args.name.now c.args.place c.args.size h)
