-- The lines of a text, and the first byte that is not ASCII.
use Rattle.std.specs.Prelude.{ℕ, ◌+◌, List, [], ◌∷◌, ◌++◌, Bool, not, eqb, leb}
use Rattle.base.specs.Choice.{cond}
use Rattle.text.specs.Tokens.{cons_head}

abbrev pub not_end : ℕ → Bool
not_end x = not (eqb x 10)

-- lines end at byte 10; what stands after the last of these is a line where it has a byte
abbrev pub lines : List ℕ → List (List ℕ)
lines [] = []
lines (x ∷ xs) = cond (eqb x 10) ([] ∷ lines xs) (cons_head x (lines xs))

-- these lines, each ended by byte 10
abbrev pub ended : List (List ℕ) → List ℕ
ended [] = []
ended (l ∷ ls) = l ++ 10 ∷ ended ls

-- the line, the first being `from`, of the first byte over 127; 0 where there is none
abbrev pub foreign_line : ℕ → List ℕ → ℕ
foreign_line from [] = 0
foreign_line from (x ∷ xs) = cond (leb x 127) (foreign_line (cond (eqb x 10) (from + 1) from) xs) from
