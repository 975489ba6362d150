-- The counts fit, as the caller says.
use Rattle.std.proofs.Common.{ap, arith}
use Rattle.asm.specs.Assemble.{reported}
use Rattle.numbers.proofs.FittingLaws.{counts-fit}
use Rattle.numbers.proofs.answers.of_assembly.Goals as goal

pub overflow_mul-result : goal.overflow_mul-result
overflow_mul-result c = let f = counts-fit (ap reported c.in-Ok.is) c.requires in record { fits = omega (arith, f.0, f.1, f.2) }

pub overflow_mul-result-in-Ok : goal.overflow_mul-result-in-Ok
overflow_mul-result-in-Ok c = let f = counts-fit (ap reported c.in-Ok.is) c.requires in record { fits = omega (arith, f.0, f.1, f.2) }

pub overflow_add-result : goal.overflow_add-result
overflow_add-result c = let f = counts-fit (ap reported c.in-Ok.is) c.requires in record { fits = omega (arith, f.0, f.1, f.2) }

pub overflow_mul-result-in-Ok-2 : goal.overflow_mul-result-in-Ok-2
overflow_mul-result-in-Ok-2 c = let f = counts-fit (ap reported c.in-Ok.is) c.requires in record { fits = omega (arith, f.0, f.1, f.2) }

pub overflow_add-result-in-Ok : goal.overflow_add-result-in-Ok
overflow_add-result-in-Ok c = let f = counts-fit (ap reported c.in-Ok.is) c.requires in record { fits = omega (arith, f.0, f.1, f.2) }
