-- The bytes so far are written. Assumes nothing.
use lib.ListN.{take}
use Rattle.pen.specs.Written.{Writes}
use Rattle.pen.proofs.writing.Pen.put_all.Given as goal

abbrev pub invariant-loop-b : goal.invariant-loop-b
invariant-loop-b l = Writes l.initial.self l.self (take l.b-index l.bytes)
