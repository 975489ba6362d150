use Rattle.std.proofs.Common.{length, ◌≡◌, ◌+◌, ◌≤◌, drop}
use Rattle.text.specs.Tokens.{tokens}
use Rattle.text.proofs.tokens.count_tokens.Given as goal

abbrev pub invariant-loop-i : goal.invariant-loop-i
invariant-loop-i l = (l.n ≤ l.i) × (l.n + length (tokens (drop l.i l.s)) ≡ length (tokens l.s))
