-- Text is a list of bytes; here: its blanks, and what trimming leaves.
use Rattle.std.specs.Prelude.{ℕ, suc, List, [], ◌∷◌, Bool, true, false, not, ◌&&◌, ◌||◌, drop, eqb, leb}
use Rattle.base.specs.Choice.{cond}

-- blanks are the bytes 9 to 13, and 32
unfoldable pub is_blank : ℕ → Bool
is_blank b = leb 9 b && leb b 13 || eqb b 32

abbrev pub not_blank : ℕ → Bool
not_blank b = not (is_blank b)

abbrev pub equals : ℕ → ℕ → Bool
equals b x = eqb x b

-- how many bytes at the front pass the test
abbrev pub run : (ℕ → Bool) → List ℕ → ℕ
run p [] = 0
run p (x ∷ xs) = cond (p x) (suc (run p xs)) 0

-- without the bytes at the front that pass the test
abbrev pub drop_front : (ℕ → Bool) → List ℕ → List ℕ
drop_front p xs = drop (run p xs) xs

-- without the bytes at the end that pass the test
abbrev pub keep_if : Bool → ℕ → List ℕ → List ℕ
keep_if passes x (y ∷ ys) = x ∷ y ∷ ys
keep_if true x [] = []
keep_if false x [] = x ∷ []

abbrev pub drop_end : (ℕ → Bool) → List ℕ → List ℕ
drop_end p [] = []
drop_end p (x ∷ xs) = keep_if (p x) x (drop_end p xs)
