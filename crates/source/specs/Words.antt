-- Which words have a text, and what is written for each: the instruction that it says, register-mode 5 as CJP.
use Rattle.std.specs.Prelude.{ℕ, suc, Bool, false, ◌&&◌, List, [], ◌∷◌, eqb}
use Rattle.base.specs.Choice.{cond}
use Rattle.base.specs.Told.{Told, is, no}
use Rattle.instruction.specs.declared.Edition.TheVariants.{Second}
use Rattle.instruction.specs.declared.Instruction.{Instruction}
use Rattle.instruction.specs.declared.Instruction.TheVariants.{Noop}
use Rattle.instruction.specs.Editions.{decode_in}
use Rattle.instruction.specs.Encode.{encode}
use Rattle.instruction.specs.Fits.{sayable}

-- a word that says none has no text, and nothing is written
abbrev pub or_noop : Told Instruction → Instruction
or_noop (is i) = i
or_noop (no n) = Noop

unfoldable pub instruction_of : ℕ → Instruction
instruction_of w = or_noop (decode_in Second w)

-- it has a text where it is the very word of what it says, with no bit outside the fields, and a line says that
-- (Promises.antt: exactly where a line that plain assembly accepts gives this word)
abbrev pub is_said : ℕ → Told Instruction → Bool
is_said w (is i) = eqb (encode i) w && sayable i
is_said w (no n) = false

unfoldable pub has_text : ℕ → Bool
has_text w = is_said w (decode_in Second w)

-- the index of the lowest word without a text; how many words there are, where each has one
abbrev pub lowest : List ℕ → ℕ
lowest [] = 0
lowest (w ∷ ws) = cond (has_text w) (suc (lowest ws)) 0
