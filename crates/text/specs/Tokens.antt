-- The tokens of a line: the longest parts with no blank in them, in order.
use Rattle.std.specs.Prelude.{ℕ, ◌+◌, List, [], ◌∷◌, Bool, false, not, drop}
use Rattle.base.specs.Choice.{cond}
use Rattle.text.specs.Parts.{is_blank, not_blank, run, drop_front}

abbrev pub starts_word : List ℕ → Bool
starts_word [] = false
starts_word (x ∷ xs) = not (is_blank x)

-- a byte before the first of some parts, as a part of its own where there is none
abbrev pub cons_head : ℕ → List (List ℕ) → List (List ℕ)
cons_head x [] = (x ∷ []) ∷ []
cons_head x (t ∷ ts) = (x ∷ t) ∷ ts

abbrev pub tokens : List ℕ → List (List ℕ)
tokens [] = []
tokens (x ∷ xs) = cond (is_blank x) (tokens xs) (cond (starts_word xs) (cons_head x (tokens xs)) ((x ∷ []) ∷ tokens xs))

-- the first of some tokens, no byte where there is none; and the others
abbrev pub first : List (List ℕ) → List ℕ
first [] = []
first (t ∷ ts) = t

abbrev pub others : List (List ℕ) → List (List ℕ)
others [] = []
others (t ∷ ts) = ts

-- token k of a line, from 0; no byte where there are fewer
abbrev pub token_at : List ℕ → ℕ → List ℕ
token_at line k = first (drop k (tokens line))

-- where the first token ends
abbrev pub past_first : List ℕ → ℕ
past_first xs = run is_blank xs + run not_blank (drop_front is_blank xs)

-- where the second token starts, or the end where there is none
abbrev pub second_start : List ℕ → ℕ
second_start xs = past_first xs + run is_blank (drop (past_first xs) xs)

-- a token ends with the first byte
abbrev pub ends_word : List ℕ → Bool
ends_word [] = false
ends_word (x ∷ xs) = cond (is_blank x) false (not (starts_word xs))
