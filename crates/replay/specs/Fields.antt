-- How many fields may still come of what is left of a line.
use Rattle.std.specs.Prelude.{ℕ, ◌+◌, List, Option, Some, None, length}
use Rattle.std.specs.Borrow.{Bor}

-- each but the last has a mark behind it
abbrev pub most_left : Option (Bor (List ℕ)) → ℕ
most_left None = 0
most_left (Some rest) = length rest.now + 1
