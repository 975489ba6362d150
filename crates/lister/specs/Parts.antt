-- What the functions between the assembler and the printed bytes hand on.
use Rattle.std.specs.Prelude.{ℕ, ◌≤◌, ◌≡◌, List, ◌++◌, length, take, Result, Ok, Err}
use Rattle.base.specs.Numbers.{number_of}
use Rattle.asm.specs.declared.Totals.{Totals}
use Rattle.asm.specs.declared.Fault.{Fault}
use Rattle.asm.specs.Assemble.{Outcome, words_of, report, reported}
use Rattle.lister.specs.Listing.{lines_from, totals, refusal}

-- the listing, by the assembler's answer and the words it left
abbrev pub shown_of : Result Totals Fault → List ℕ → List ℕ
shown_of (Ok t) words = lines_from 0 (take t.words words) ++ totals t.words t.waiting
shown_of (Err f) words = refusal (number_of f.refusal) f.line

-- an answer and words that tell an outcome
pub record Tells (a : Result Totals Fault) (words : List ℕ) (o : Outcome) : Type 0 where
  pub answer : reported a ≡ report o
  pub first : take (length (words_of o)) words ≡ words_of o
  pub room : length (words_of o) ≤ length words
