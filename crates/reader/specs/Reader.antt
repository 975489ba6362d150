-- The line at a position of the text.
use Rattle.std.specs.Prelude.{ℕ, ◌≡◌, ◌+◌, ◌<◌, ◌≤◌, List, [], ◌∷◌, Bool, true, ◌&&◌, Option, MatchOption, length, take, drop, leb, ltb}
use denote.Ref.{Bor}
use Rattle.base.specs.Choice.{cond}
use Rattle.text.specs.Parts.{run}
use Rattle.text.specs.Lines.{not_end}
use Rattle.reader.specs.declared.lines.LineReader.{LineReader}

-- the line that starts at a place, without its end, and where the line after it starts; past the text there is none
unfoldable pub line_at : List ℕ → ℕ → List ℕ
line_at s at = take (run not_end (drop at s)) (drop at s)

unfoldable pub after_line : List ℕ → ℕ → ℕ
after_line s at = cond (ltb at (length s)) (at + run not_end (drop at s) + 1) at

-- the line at the reader's place, with that place; past the text none
abbrev pub Given : List ℕ → ℕ → Option (ℕ × Bor (List ℕ)) → Type 0
Given s at line = MatchOption line (length s ≤ at) (λ x. (at < length s) × (x.0 ≡ at) × (x.1.now ≡ line_at s at))

-- what is read, and that the reader then stands at the line after it in the same text
abbrev pub Reads : LineReader → Option (ℕ × Bor (List ℕ)) → LineReader → Type 0
Reads r line r' = (r'.text ≡ r.text) × (r'.at ≡ after_line r.text.now r.at) × Given r.text.now r.at line

-- ASCII are the bytes up to 127
unfoldable pub is_ascii : List ℕ → Bool
is_ascii [] = true
is_ascii (x ∷ xs) = leb x 127 && is_ascii xs

-- is there a line at the place, all of it ASCII?
unfoldable pub clean_at : List ℕ → ℕ → Bool
clean_at s at = ltb at (length s) && is_ascii (line_at s at)

-- the first line that is not ASCII, the first of all being `from`; 0 where there is none
abbrev pub first_foreign : ℕ → List (List ℕ) → ℕ
first_foreign from [] = 0
first_foreign from (l ∷ ls) = cond (is_ascii l) (first_foreign (from + 1) ls) from
