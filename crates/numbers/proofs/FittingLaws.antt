-- When a report fits: exactly where each of its counts has sixteen bits; and when a count does. Assumes nothing.
use Prim.Native.Nat.{ℕ, ◌<◌, ◌≤◌}
use native.Mathlib.Omega.{arith}
use Rattle.std.specs.Prelude.{Result, Ok, Err}
use Rattle.base.specs.Told.{told}
use Rattle.base.specs.declared.refusals.Refusal.{Refusal}
use Rattle.memory.specs.Blocks.{counted}
use mathlib.Core.Path.{◌≡◌, refl, sym, ap, ◌∙◌}
use mathlib.Core.Bool.{true}
use lib.Dec.{ltb}
use borrow.Author.Tests.{ltb-true, lt-ltb}
use Rattle.base.proofs.Tests.{first, second, third}
use Rattle.asm.specs.Assemble.{Report, counts, refusal}
use Rattle.numbers.specs.Answers.{listed_number, fitting}

pub counts-fit : {r : Report} {words labels waiting : ℕ} → r ≡ counts words labels waiting → fitting r ≡ true
    → (words < 65536) × (labels < 65536) × (waiting < 65536)
unfolding fitting
counts-fit {r} {words} {labels} {waiting} e f =
    let h : fitting (counts words labels waiting) ≡ true = ap fitting (sym e) ∙ f in
    let x = ltb words 65536 in
    let y = ltb labels 65536 in
    let z = ltb waiting 65536 in
    (ltb-true words 65536 (first x y z h), ltb-true labels 65536 (second x y z h), ltb-true waiting 65536 (third x y z h))

pub fit-counts : (words labels waiting : ℕ) → words < 65536 → labels < 65536 → waiting < 65536 → fitting (counts words labels waiting) ≡ true
unfolding fitting
fit-counts words labels waiting a b c = rw (lt-ltb words 65536 a, lt-ltb labels 65536 b, lt-ltb waiting 65536 c)

pub fit-refusal : (n line : ℕ) → fitting (refusal n line) ≡ true
unfolding fitting
fit-refusal n line = refl

-- a number of sixteen bits below a count holds the count
pub count-fits : (a : Result ℕ Refusal) → listed_number (told a) ≤ 18446744073709551615 → (counted a).count ≤ 281474976710655
count-fits (Ok n) h = omega arith
count-fits (Err r) h = omega arith
