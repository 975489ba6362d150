-- Open references: the name that is waited for, the number of the waiting instruction, what it becomes.
use Rattle.std.specs.Prelude.{ℕ}
use Rattle.parser.specs.declared.Reference.{Reference}
use Rattle.parser.specs.declared.Reference.TheVariants.{Jmp}
use Rattle.labels.specs.declared.Open.{Open}

abbrev pub open_to : ℕ → ℕ → ℕ → Reference → Open
open_to place size word what = record { place = place; length = size; word = record { 0 = word }; reference = what }

-- what an entry holds before there is a reference in it, and what stands past the last one
abbrev pub no_open : Open
no_open = open_to 0 0 0 Jmp
