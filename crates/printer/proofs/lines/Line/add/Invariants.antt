-- The bytes so far stand behind the line. Assumes nothing.
use Rattle.std.proofs.Common.{◌≡◌, ◌++◌}
use Rattle.std.specs.Prelude.{take}
use Rattle.printer.proofs.lines.Line.add.Given as goal

abbrev pub invariant-loop-b : goal.invariant-loop-b
invariant-loop-b l = l.self.text.items ≡ l.fn.self.text.items ++ take l.b-index l.fn.s
