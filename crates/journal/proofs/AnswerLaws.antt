-- Two answers of a run that are told alike are one: a struct is its fields, and a refusal its number. Assumes nothing.
use mathlib.Core.Path.{◌≡◌}
use Rattle.base.specs.Told.{told}
use Rattle.base.proofs.ToldLaws.{told-one}
use Rattle.journal.specs.declared.Ran.{Ran}

pub ran-one : (p q : Ran) → told p.answer ≡ told q.answer → p.count ≡ q.count → p ≡ q
ran-one p q e f = λ i. record { answer = told-one p.answer q.answer e i; count = f i }
