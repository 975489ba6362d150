-- What the functions answer, in document 01's words and numbers.
use Rattle.std.specs.Prelude.{ℕ, List, Result, Ok, Err}
use Rattle.base.specs.Numbers.{number_of}
use Rattle.base.specs.Told.{Told, is, no}
use Rattle.base.specs.declared.refusals.Refusal.{Refusal}
use Rattle.instruction.specs.declared.Instruction.{Instruction}
use Rattle.instruction.specs.declared.Operand.{Operand}
use Rattle.instruction.specs.declared.Register.{Register}
use denote.Ref.{Bor}
use Rattle.parser.specs.declared.Reference.{Reference}
use Rattle.parser.specs.declared.Parsed.{Parsed}
use Rattle.parser.specs.declared.Parsed.TheVariants as line
use Rattle.parser.specs.declared.brackets.Shift.{Shift}
use Rattle.parser.specs.declared.brackets.Address.{Address}

-- what a line says: an instruction, or a reference to the label of this name
pub data Meaning : Type 0 where
  says : Instruction → Meaning
  refers : Reference → List ℕ → Meaning

-- the answer for a line, with the name that a reference in it waits for
abbrev pub told : Result Parsed Refusal → List ℕ → Told Meaning
told (Ok (line.Is i)) waits = is (says i)
told (Ok (line.Refers r)) waits = is (refers r waits)
told (Err e) waits = no (number_of e)

-- a token, or the refusal of a line without it
abbrev pub told_token : Result (Bor (List ℕ)) Refusal → Told (List ℕ)
told_token (Ok t) = is t.now
told_token (Err e) = no (number_of e)

-- two operands
abbrev pub both : Register → Operand → Register × Operand
both r o = (r, o)

-- three registers
abbrev pub triple : Register → Register → Register → Register × Register × Register
triple d a b = (d, a, b)

-- a register, the immediate and the amount of its shift
abbrev pub turn : Register → ℕ → ℕ → Shift
turn r imm amount = record { register = r; immediate = imm; amount = amount }

-- a register with an address, and the shift
abbrev pub at : Register → ℕ → Address
at r n = record { base = r; shift = n }
