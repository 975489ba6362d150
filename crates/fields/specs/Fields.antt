-- Fields of a word, by position and width: each is masked to its width.
use Rattle.std.specs.Prelude.{ℕ, ◌*◌, ◌/◌, ◌%◌, ◌^◌}

-- the `width` bits of w from bit `at` on
abbrev pub field_of : ℕ → ℕ → ℕ → ℕ
field_of w at width = w / 2 ^ at % 2 ^ width

-- v, masked to `width` bits, at bit `at`
abbrev pub place_of : ℕ → ℕ → ℕ → ℕ
place_of v at width = v % 2 ^ width * 2 ^ at
