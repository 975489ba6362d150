-- With k steps behind it, what is left of n steps gives the whole run's answer, k more counted; and the state stays valid. Assumes nothing.
use mathlib.Core.Path.{◌≡◌}
use mathlib.Core.Bool.{true}
use Prim.Native.Nat.{◌-◌}
use Rattle.memory.specs.Bytes.{lent}
use Rattle.journal.specs.States.{whole, valid}
use Rattle.journal.specs.Run.{repeated}
use Rattle.journal.proofs.RunTurns.{counted}
use Rattle.journal.proofs.runs.run.Given as goal

abbrev pub invariant-loop-count : goal.invariant-loop-count
invariant-loop-count l = record {
  same : l.map ≡ l.s.machine.map;
  stays : valid l.s l.dev l.journal ≡ true;
  left : counted l.count (repeated (l.n - l.count) (whole l.s (lent l.mem l.dev) l.journal)) ≡ repeated l.n (whole l.initial.s (lent l.initial.mem l.initial.dev) l.initial.journal);
}
