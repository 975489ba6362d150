-- Registers A B C M SP PC BP FLAGS are 0 to 7.
use Rattle.std.specs.Prelude.{ℕ, Bool, get_or, set}
use Rattle.arithmetic.specs.Flags as flags
use Rattle.instruction.specs.Codes.{register_code}
use Rattle.instruction.specs.declared.Register.{Register}
use Rattle.instruction.specs.declared.Register.TheVariants.{FLAGS}
use Rattle.instruction.specs.declared.Operand.{Operand}
use Rattle.instruction.specs.declared.Operand.TheVariants.{Reg, Imm}
use Rattle.machine.specs.declared.Registers.{Registers}

unfoldable pub get : Registers → Register → ℕ
get s r = get_or s.value (register_code r) 0

unfoldable pub put : Registers → Register → ℕ → Registers
put s r v = record { value = set s.value (register_code r) v }

unfoldable pub operand : Registers → Operand → ℕ
operand s (Reg r) = get s r
operand s (Imm v) = v

-- a bit of FLAGS is set
unfoldable pub flag : Registers → ℕ → Bool
flag s bit = flags.flag (get s FLAGS) bit
