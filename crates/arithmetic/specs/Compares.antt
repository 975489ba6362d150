-- The six comparisons, of numbers without a sign.
use Rattle.std.specs.Prelude.{ℕ, Bool, not, eqb, ltb, leb}
use Rattle.instruction.specs.declared.CompareOp.{CompareOp}
use Rattle.instruction.specs.declared.CompareOp.TheVariants.{Eq, NotEq, Less, LessEq, Greater, GreaterEq}

unfoldable pub compare : CompareOp → ℕ → ℕ → Bool
compare Eq a b = eqb a b
compare NotEq a b = not (eqb a b)
compare Less a b = ltb a b
compare LessEq a b = leb a b
compare Greater a b = ltb b a
compare GreaterEq a b = leb b a
