-- Numbers as text: four upper-case hex digits, decimal digits, and a line that says two numbers.
use Rattle.std.specs.Prelude.{ℕ, ◌+◌, ◌/◌, ◌%◌, List, [], ◌∷◌, ◌++◌, ltb}
use Rattle.base.specs.Bytes.{bytes}
use Rattle.base.specs.Choice.{cond}
use Rattle.printer.specs.Text.{digits}

-- 0 to 9, then A to F
abbrev pub hex_digit : ℕ → ℕ
hex_digit d = cond (ltb d 10) (48 + d) (55 + d)

-- the last four digits to base sixteen
unfoldable pub hex : ℕ → List ℕ
hex n = hex_digit (n / 4096 % 16) ∷ hex_digit (n / 256 % 16) ∷ hex_digit (n / 16 % 16) ∷ hex_digit (n % 16) ∷ []

-- a number of 64 bits has at most twenty digits
unfoldable pub decimal : ℕ → List ℕ
decimal n = digits 20 n

-- a line that says two numbers, each after its text
unfoldable pub two_numbers : List ℕ → ℕ → List ℕ → ℕ → List ℕ
two_numbers first n second m = first ++ decimal n ++ second ++ decimal m ++ bytes "\n"
