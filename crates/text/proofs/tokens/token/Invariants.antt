use Rattle.std.proofs.Common.{◌≡◌, ◌≤◌, length, drop}
use Rattle.text.specs.Tokens.{tokens}
use Rattle.text.proofs.tokens.token.Given as goal

abbrev pub invariant-loop-i : goal.invariant-loop-i
invariant-loop-i l = (l.at ≤ length l.line) × (tokens (drop l.at l.line) ≡ drop l._i (tokens l.line))
