-- Assembling a text: 26 over the whole of it, then line by line.
use Rattle.std.specs.Prelude.{ℕ, ◌+◌, ◌-◌, List, [], ◌∷◌, ◌++◌, Bool, Result, Ok, Err, eqb, length, replicate}
use Rattle.base.specs.Choice.{cond}
use Rattle.base.specs.Numbers.{number_of}
use Rattle.base.specs.Told.{Told, is, no}
use Rattle.text.specs.Lines.{lines, foreign_line}
use Rattle.labels.specs.declared.Label.{Label}
use Rattle.asm.specs.Reading.{read}
use Rattle.asm.specs.Work.{Task, task, Work, nothing, turn}
use Rattle.asm.specs.declared.Totals.{Totals}
use Rattle.asm.specs.declared.Fault.{Fault}

-- how it ends: with the work done, or with a number and the line, from 1, that was being read
pub data Outcome : Type 0 where
  accepted : Work → Outcome
  refused : ℕ → ℕ → Outcome

abbrev pub next_line : ℕ → Told Work → (Work → Outcome) → Outcome
next_line line (is w) next = next w
next_line line (no n) next = refused n line

-- the lines from the one that starts at `at` on, `line` lines having been read
abbrev pub assemble_from : Task → List (List ℕ) → ℕ → ℕ → Work → Outcome
assemble_from t [] at line w = accepted w
assemble_from t (l ∷ ls) at line w =
    next_line (line + 1) (turn t at (read l) w) (assemble_from t ls (at + length l + 1) (line + 1))

abbrev pub ascii : Task → ℕ → Outcome
ascii t line = cond (eqb line 0) (assemble_from t (lines t.text) 0 0 nothing) (refused 26 line)

unfoldable pub assemble : Task → Outcome
assemble t = ascii t (foreign_line 1 t.text)

-- with room for so many words and labels
abbrev pub outcome : Bool → List ℕ → ℕ → ℕ → Outcome
outcome strict text word_room label_room = assemble (task strict text word_room label_room)

-- a refusal leaves neither words nor labels
abbrev pub words_of : Outcome → List ℕ
words_of (accepted w) = w.words
words_of (refused n line) = []

abbrev pub labels_left : Outcome → List Label
labels_left (accepted w) = w.labels
labels_left (refused n line) = []

-- a buffer afterwards: these numbers, and zeros in all of its rest
unfoldable pub filled : ℕ → List ℕ → List ℕ
filled room numbers = numbers ++ replicate (room - length numbers) 0

-- the answer: how many words, labels and open references; or the number and the line
pub data Report : Type 0 where
  counts : ℕ → ℕ → ℕ → Report
  refusal : ℕ → ℕ → Report

abbrev pub report : Outcome → Report
report (accepted w) = counts (length w.words) (length w.labels) (length w.waiting)
report (refused n line) = refusal n line

abbrev pub reported : Result Totals Fault → Report
reported (Ok t) = counts t.words t.labels t.waiting
reported (Err f) = refusal (number_of f.refusal) f.line
