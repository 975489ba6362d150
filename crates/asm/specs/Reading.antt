-- What a line of a text is. Places are counted from the start of the line.
use Rattle.std.specs.Prelude.{ℕ, ◌+◌, List, [], ◌∷◌, Result, Ok, Err, eqb, ltb, length}
use Rattle.base.specs.Choice.{cond}
use Rattle.base.specs.Numbers.{number_of}
use Rattle.base.specs.declared.refusals.Refusal.{Refusal}
use Rattle.base.specs.Told.{Told, is, no}
use Rattle.instruction.specs.declared.Instruction.{Instruction}
use Rattle.text.specs.Parts.{is_blank, equals, run, drop_front, drop_end}
use Rattle.text.specs.Tokens.{tokens, second_start}
use Rattle.parser.specs.declared.Reference.{Reference}
use Rattle.parser.specs.Answers.{Meaning}
use Rattle.parser.specs.Parse.{parse}
use Rattle.parser.specs.Answers as Parse
use Rattle.asm.specs.declared.Line.{Line}

pub data Item : Type 0 where
  skip : Item
  label : ℕ → ℕ → Item
  says : Instruction → Item
  refers : Reference → ℕ → ℕ → Item

-- what a line is that the function reads, and what it answers: that, or 01's number
abbrev pub item_of : Line → Item
item_of Line.Skip = skip
item_of (Line.Label start size) = label start size
item_of (Line.Says i) = says i
item_of (Line.Refers r start size) = refers r start size

abbrev pub told_item : Result Line Refusal → Told Item
told_item (Ok l) = is (item_of l)
told_item (Err r) = no (number_of r)

-- where the name ends that a line has, 0 where it has none
abbrev pub end_of : Line → ℕ
end_of Line.Skip = 0
end_of (Line.Label start size) = start + size
end_of (Line.Says i) = 0
end_of (Line.Refers r start size) = start + size

-- the same of what reading a line answers
abbrev pub end_read : Result Line Refusal → ℕ
end_read (Ok l) = end_of l
end_read (Err r) = 0

-- a reference keeps where the name stands that it waits for: it is the second token
abbrev pub said : ℕ → List ℕ → Told Meaning → Told Item
said at line (is (Parse.says i)) = is (says i)
said at line (is (Parse.refers r name)) = is (refers r (at + second_start line) (length name))
said at line (no n) = no n

-- without its final colons
abbrev pub name_in : List ℕ → List ℕ
name_in line = drop_end (equals 58) line

-- a trimmed line, which starts at `at`: empty or a comment; a label if it ends in a colon; else what its tokens say
abbrev pub read_trimmed : ℕ → List ℕ → Told Item
read_trimmed at [] = is skip
read_trimmed at (x ∷ xs) =
    cond (eqb x 59) (is skip)
    (cond (ltb (length (name_in (x ∷ xs))) (length (x ∷ xs))) (is (label at (length (name_in (x ∷ xs)))))
    (said at (x ∷ xs) (parse (tokens (x ∷ xs)))))

unfoldable pub read : List ℕ → Told Item
read line = read_trimmed (run is_blank line) (drop_end is_blank (drop_front is_blank line))
