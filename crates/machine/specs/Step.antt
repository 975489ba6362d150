-- A step: 1 first, then what was planned is made.
use Rattle.base.specs.Choice.{cond}
use Rattle.base.specs.Told.{Told, no}
use Rattle.memory.specs.Bytes.{Lent}
use Rattle.memory.specs.Words.{made}
use Rattle.machine.specs.Plan.{Planned, plan}
use Rattle.machine.specs.States.{valid, with}
use Rattle.machine.specs.declared.Machine.{Machine}
use Rattle.machine.specs.declared.StepAnswer.{StepAnswer}

-- a step's answer, and the machine and the bytes after it
pub record After : Type 0 where
  pub answer : Told StepAnswer
  pub machine : Machine
  pub bytes : Lent

abbrev pub after : Told StepAnswer → Machine → Lent → After
after t m b = record { answer = t; machine = m; bytes = b }

unfoldable pub committed : Machine → Lent → Planned → After
committed m b p = after p.answer (with m p.registers) (made p.changes b)

unfoldable pub step : Machine → Lent → After
step m b = cond (valid m b.dev) (committed m b (plan m b)) (after (no 1) m b)
