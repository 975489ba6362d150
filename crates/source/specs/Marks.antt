-- For inner functions' contracts alone: a mark for each of the first words, set where the word's address is used.
use Rattle.std.specs.Prelude.{ℕ, ◌/◌, ◌%◌, Bool, true, false, List, [], ◌∷◌, ◌++◌, eqb, get_or, set, Option, Some, None}
use Rattle.base.specs.Choice.{cond}
use Rattle.base.specs.Words.{doubled}
use Rattle.instruction.specs.declared.Instruction.{Instruction}
use Rattle.source.specs.declared.aims.Aim.{Aim}
use Rattle.source.specs.Source.{aim_of, label_line}

abbrev pub marked_by : Option Aim → List Bool → List Bool
marked_by None used = used
marked_by (Some x) used = cond (eqb (x.address % 2) 0) (set used (x.address / 2) true) used

abbrev pub marked : List Instruction → List Bool → List Bool
marked [] used = used
marked (i ∷ xs) used = marked xs (marked_by (aim_of i) used)

-- is word k marked? Those past the marks are not
abbrev pub is_marked : List Bool → ℕ → Bool
is_marked used k = get_or used k false

-- is the word marked that stands at this address? Asked of even ones
abbrev pub used_in : List Bool → ℕ → Bool
used_in used a = is_marked used (a / 2)

-- the label line of word k, with its byte 10, where its address is used
abbrev pub label_before : (ℕ → Bool) → ℕ → List ℕ
label_before used k = cond (used (doubled k)) (label_line (doubled k) ++ 10 ∷ []) []
