-- Immediates: `#` decimal or `#0x` hex, one `+` allowed before the digits, at most 65,535, else 24.
use Rattle.std.specs.Prelude.{ℕ, ◌+◌, ◌-◌, ◌*◌, List, [], ◌∷◌, Bool, true, false, ◌&&◌, Option, Some, None, drop, ltb, leb, eqb}
use Rattle.base.specs.Choice.{cond}
use Rattle.base.specs.Told.{Told, is, no}

-- the value of a digit, 0 to 9 or a letter to F in either case; 99, which no base reaches, for a byte that is none
unfoldable pub digit_of : ℕ → ℕ
digit_of b =
    cond (leb 48 b && leb b 57) (b - 48)
    (cond (leb 65 b && leb b 70) (b - 55)
    (cond (leb 97 b && leb b 102) (b - 87) 99))

-- the digit that a byte is in a base of at most 16, if it is one
abbrev pub digit_in : ℕ → ℕ → Option ℕ
digit_in base b = cond (ltb (digit_of b) base) (Some (digit_of b)) None

abbrev pub all_digits : ℕ → List ℕ → Bool
all_digits base [] = true
all_digits base (x ∷ xs) = cond (ltb (digit_of x) base) (all_digits base xs) false

-- the value of digits that follow on the number acc
abbrev pub value_from : ℕ → ℕ → List ℕ → ℕ
value_from base acc [] = acc
value_from base acc (x ∷ xs) = value_from base (acc * base + digit_of x) xs

abbrev pub at_most : ℕ → Told ℕ
at_most n = cond (leb n 65535) (is n) (no 24)

abbrev pub digits_from : ℕ → ℕ → List ℕ → Told ℕ
digits_from base acc xs = cond (all_digits base xs) (at_most (value_from base acc xs)) (no 24)

-- one digit or more
abbrev pub digits : ℕ → List ℕ → Told ℕ
digits base [] = no 24
digits base (x ∷ xs) = digits_from base 0 (x ∷ xs)

-- one `+` is allowed before the digits
abbrev pub after_plus : List ℕ → List ℕ
after_plus [] = []
after_plus (x ∷ xs) = cond (eqb x 43) xs (x ∷ xs)

-- does it start with `0x`?
abbrev pub is_hex : List ℕ → Bool
is_hex (x ∷ y ∷ xs) = cond (eqb x 48) (eqb y 120) false
is_hex (x ∷ []) = false
is_hex [] = false

-- what stands after the `#`
abbrev pub value_of : List ℕ → Told ℕ
value_of xs = cond (is_hex xs) (digits 16 (after_plus (drop 2 xs))) (digits 10 (after_plus xs))

unfoldable pub immediate : List ℕ → Told ℕ
immediate [] = no 24
immediate (x ∷ xs) = cond (eqb x 35) (value_of xs) (no 24)
