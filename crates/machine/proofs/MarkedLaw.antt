-- The marked list: each row's two sides are computed, and are the same. Assumes nothing.
use mathlib.Core.Path.{◌≡◌, refl}
use mathlib.Core.List.{map}
use Rattle.instruction.specs.Decode.{decode, arm, arms}
use Rattle.arithmetic.specs.Operators.{arithmetic_result}
use Rattle.arithmetic.specs.Roots.{root, root_up_to}
use Rattle.machine.specs.Marked.{Row, marked}

pub all-marked : map (λ (r : Row). r.ours) marked ≡ map (λ (r : Row). r.theirs) marked
unfolding decode arm arms arithmetic_result root root_up_to
all-marked = refl
