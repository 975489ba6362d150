-- Two answers that are told alike are one: a store that is decided, and a reading out by number and count. Assumes nothing.
use mathlib.Core.Path.{◌≡◌, sym, ap}
use Prim.Native.Nat.{ℕ}
use Rattle.std.specs.Prelude.{Result, Ok, Err}
use Rattle.base.specs.declared.refusals.Refusal.{Refusal}
use Rattle.base.proofs.Laws.{not_accepted, number-one}
use Rattle.base.proofs.ToldLaws.{told-one}
use Rattle.memory.specs.Blocks.{Counted, counted}
use Rattle.memory.specs.Words.{Decided, decided}
use Rattle.memory.specs.declared.Decision.{Decision}

pub counted-one : (a b : Result ℕ Refusal) → counted a ≡ counted b → a ≡ b
counted-one (Ok n) (Ok k) e = ap Ok (ap (λ (x : Counted). x.count) e)
counted-one (Ok n) (Err r) e = not_accepted r (ap (λ (x : Counted). x.number) e)
counted-one (Err r) (Ok n) e = not_accepted r (sym (ap (λ (x : Counted). x.number) e))
counted-one (Err r) (Err q) e = ap Err (number-one r q (ap (λ (x : Counted). x.number) e))

pub decided-one : (a b : Decision) → decided a ≡ decided b → a ≡ b
decided-one a b e =
    λ i. record {
      outcome = told-one a.outcome b.outcome (ap (λ (x : Decided). x.outcome) e) i;
      changes = (e i).changes;
    }
