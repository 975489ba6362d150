-- The second address exists and is below the memory's length, so the first is too, and the devices decide. Assumes nothing.
use Rattle.std.proofs.Common.{◌≡◌, sym, ap, ◌∙◌, ◌+◌, ◌<◌, ◌≤◌, not, arith}
use borrow.Author.Tests.{le-ltb}
use Rattle.map.specs.Places.{addressable}
use Rattle.map.proofs.PlaceLaws.{word-past, word-by-devices}
use Rattle.map.proofs.places.is_linear_word.Goals as goal

pub returns-then-b-mem : goal.returns-then-b-mem
returns-then-b-mem c =
    let e : c.in-Some.b ≡ c.args.a + 1 = omega (arith, c.in-Some.ensures) in
    let k : c.args.a + 1 < addressable c.args.mem = omega (arith, c.in-Some.ensures) in
    ap not (rw e at c.device_within.ensures) ∙ word-by-devices c.args.m c.args.mem c.args.a k

pub returns-else-b-mem : goal.returns-else-b-mem
returns-else-b-mem c =
    let h : addressable c.args.mem ≤ c.args.a + 1 = omega (arith, c.in-Some.ensures) in
    le-ltb _ _ c.if-b-mem.false ∙ sym (word-past c.args.m c.args.mem c.args.a h)

pub returns-in-None : goal.returns-in-None
returns-in-None c =
    let h : addressable c.args.mem ≤ c.args.a + 1 = omega (arith, c.in-None.ensures) in
    sym (word-past c.args.m c.args.mem c.args.a h)
