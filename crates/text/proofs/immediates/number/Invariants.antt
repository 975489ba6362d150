use Rattle.std.proofs.Common.{◌≡◌, ◌≤◌, drop}
use Rattle.text.specs.Immediates.{digits, digits_from}
use Rattle.text.proofs.immediates.number.Given as goal

abbrev pub invariant-loop-b : goal.invariant-loop-b
invariant-loop-b l = (l.value ≤ 65535) × (digits_from l.base l.value (drop l.b-index l.s) ≡ digits l.base l.s)
