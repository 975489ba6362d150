-- The fours from the end and, after them, what is left at the front: the laws of `PartLaws` say that these are all bytes. Assumes nothing.
use Rattle.std.proofs.Common.{rules, tests, arith, ◌∙◌, refl, sym, subst, length, ◌/◌, ◌%◌}
use Rattle.std.proofs.lemmas.Iterator.{cases_from_all, YieldsList-from_range}
use Rattle.base.proofs.SameLaws.{same-lengths}
use Rattle.text.proofs.PartLaws.{AllSays, Fours, Rest, fours-alike, fours-differ}
use Rattle.text.proofs.parts.same.Goals as goal

pub returns-then-n-b : goal.returns-then-n-b
returns-then-n-b c = sym (same-lengths c.args.a.now c.args.b.now c.if-n-b.true)

pub returns-else-by_fours : goal.returns-else-by_fours
returns-else-by_fours c =
    let a = c.args.a.now in
    let b = c.args.b.now in
    let fours : AllSays c.all-by_fours.result (Fours a b) (length a / 4) = cases_from_all _ _ _ (Fours a b) (λ i. Fours a b i → ⊥) c.all-by_fours.ensures.ran (YieldsList-from_range 0 _ _ refl (omega arith)) (λ x q k. search (rules, tests)) (λ x q k. search (rules, tests)) in
    c.if-by_fours.false ∙ fours-differ (length a / 4) a b (subst (λ t. AllSays t (Fours a b) (length a / 4)) c.if-by_fours.false fours)

pub returns-then-by_fours : goal.returns-then-by_fours
returns-then-by_fours c =
    let a = c.args.a.now in
    let b = c.args.b.now in
    let fours : AllSays c.all-by_fours.result (Fours a b) (length a / 4) = cases_from_all _ _ _ (Fours a b) (λ i. Fours a b i → ⊥) c.all-by_fours.ensures.ran (YieldsList-from_range 0 _ _ refl (omega arith)) (λ x q k. search (rules, tests)) (λ x q k. search (rules, tests)) in
    let rest : AllSays c.all.result (Rest a b) (length a % 4) = cases_from_all _ _ _ (Rest a b) (λ i. Rest a b i → ⊥) c.all.ensures.ran (YieldsList-from_range 0 _ _ refl (omega arith)) (λ x q k. search (rules, tests)) (λ x q k. search (rules, tests)) in
    fours-alike c.all.result a b c.if-n-b.false (subst (λ t. AllSays t (Fours a b) (length a / 4)) c.if-by_fours.true fours) rest
