-- The name that a reference waits for, its second token, ends within the line. Assumes nothing.
use mathlib.Core.Path.{ap}
use lib.ListN.{length}
use native.Mathlib.Omega.{arith}
use Rattle.text.proofs.TokenLaws.{second_fits}
use Rattle.asm.proofs.reading.read_some.Goals as goal

pub returns-in-Refers-clause-result_bound : goal.returns-in-Refers-clause-result_bound
returns-in-Refers-clause-result_bound c = omega (arith, c.second_start.ensures.0, ap length c.token.ensures, second_fits c.args.t.now)
