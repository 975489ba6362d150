-- Two plans that are told alike are one: a struct is its fields, and a refusal has its number. Assumes nothing.
use mathlib.Core.Path.{◌≡◌, ap}
use Rattle.base.proofs.ToldLaws.{told-one}
use Rattle.machine.specs.Plan.{Planned, planned}
use Rattle.machine.specs.declared.Plan.{Plan}

pub planned-one : (p q : Plan) → planned p ≡ planned q → p ≡ q
planned-one p q e =
    λ i. record {
      answer = told-one p.answer q.answer (ap (λ (x : Planned). x.answer) e) i;
      registers = (e i).registers;
      changes = (e i).changes;
    }
