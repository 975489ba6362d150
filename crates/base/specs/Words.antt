-- A word's two bytes, the low one first, and the byte address of an instruction.
use Rattle.std.specs.Prelude.{ℕ, ◌+◌, ◌*◌, ◌/◌, ◌%◌}

abbrev pub word_of : ℕ → ℕ → ℕ
word_of low high = low + 256 * high

abbrev pub low_of : ℕ → ℕ
low_of w = w % 256

abbrev pub high_of : ℕ → ℕ
high_of w = w / 256

-- instruction i stands at byte 2i
abbrev pub doubled : ℕ → ℕ
doubled i = 2 * i
