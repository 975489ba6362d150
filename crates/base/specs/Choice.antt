-- Picking one of two values by a test.
use Rattle.std.specs.Prelude.{Bool, true, false}

-- a where the test holds, else b
abbrev pub cond : {A : Type 0} → Bool → A → A → A
cond true a b = a
cond false a b = b
