-- The three sums of an address: an address, or none where it would lie past the last one, 65,535.
use Rattle.std.specs.Prelude.{ℕ, ◌+◌, leb, Option, Some, None}
use Rattle.base.specs.Choice.{cond}
use Rattle.base.specs.Told.{Told, is, no}

unfoldable pub reached : ℕ → Option ℕ
reached n = cond (leb n 65535) (Some n) None

-- the second address of a word
abbrev pub second_address : ℕ → Option ℕ
second_address a = reached (a + 1)

abbrev pub base_plus_shift : ℕ → ℕ → Option ℕ
base_plus_shift base shift = reached (base + shift)

-- PC is raised by 2
abbrev pub raised_pc : ℕ → Option ℕ
raised_pc pc = reached (pc + 2)

-- the address, or a refusal with this number where it is past the last one
abbrev pub address_or : ℕ → Option ℕ → Told ℕ
address_or n (Some a) = is a
address_or n None = no n
