-- What each instruction stores, and nothing else, in the step paragraph's words. That an accepted step leaves just the bytes
-- of these stores is a law (proofs/StoreLaws.antt).
use Rattle.std.specs.Prelude.{ℕ, true, false, Option, Some, None}
use Rattle.base.specs.Choice.{cond}
use Rattle.base.specs.Told.{Told, is, no}
use Rattle.base.specs.Words.{low_of}
use Rattle.base.specs.Addresses.{base_plus_shift}
use Rattle.instruction.specs.declared.Register.TheVariants.{SP}
use Rattle.instruction.specs.declared.ArithOp.TheVariants.{Add, Sub, Mul, Div}
use Rattle.instruction.specs.declared.Instruction.{Instruction}
use Rattle.instruction.specs.declared.Instruction.TheVariants.{Noop, Mov, MovShift, Arith, ArithRegReg, LdrStr, LdbStb, Cpy, Jmp, CondJmp, Cmp, CallRet}
use Rattle.arithmetic.specs.Totals.{remainder}
use Rattle.map.specs.declared.Map.{Map}
use Rattle.map.specs.declared.Place.{Place}
use Rattle.memory.specs.Bytes.{Lent, read_byte, store_byte}
use Rattle.memory.specs.Words.{store_word}
use Rattle.machine.specs.Registers.{get, operand, flag}
use Rattle.machine.specs.declared.Machine.{Machine}
use Rattle.machine.specs.declared.Registers.{Registers}

-- nothing, a byte at an address, a word at an address
pub data Storing : Type 0 where
  nothing : Storing
  one_byte : ℕ → ℕ → Storing
  one_word : ℕ → ℕ → Storing

-- the bytes after it, by memory's own stores
unfoldable pub stores : Map → Lent → Storing → Lent
stores m b nothing = b
stores m b (one_byte a v) = store_byte m b a v
stores m b (one_word a w) = store_word m b a w

-- at base plus shift, where there is such an address
unfoldable pub at_address : Option ℕ → (ℕ → Storing) → Storing
at_address (Some a) storing = storing a
at_address None storing = nothing

-- the byte that was read
unfoldable pub copy_to : ℕ → Option (ℕ × Place) → Storing
copy_to a (Some (v, p)) = one_byte a v
copy_to a None = nothing

-- the remainder's low byte at the old SP
unfoldable pub remainder_to : Registers → Told ℕ → Storing
remainder_to s (is v) = one_byte (get s SP) (low_of v)
remainder_to s (no n) = nothing

unfoldable pub storing_of : Machine → Lent → Instruction → Storing
storing_of m b Noop = nothing
storing_of m b (Mov d o) = nothing
storing_of m b (MovShift d amount left imm) = nothing
storing_of m b (Arith d o Add) = nothing
storing_of m b (Arith d o Sub) = nothing
storing_of m b (Arith d o Mul) = nothing
storing_of m b (Arith d o Div) =
    let s = m.registers in cond (flag s 1) (remainder_to s (remainder (get s d) (operand s o))) nothing
storing_of m b (ArithRegReg d x y op) = nothing
storing_of m b (LdrStr r a true shift) = let s = m.registers in at_address (base_plus_shift (get s a) shift) (λ n. one_word n (get s r))
storing_of m b (LdrStr r a false shift) = nothing
storing_of m b (LdbStb r a true shift) = let s = m.registers in at_address (base_plus_shift (get s a) shift) (λ n. one_byte n (low_of (get s r)))
storing_of m b (LdbStb r a false shift) = nothing
storing_of m b (Cpy x y) = let s = m.registers in copy_to (get s y) (read_byte m.map b (get s x))
storing_of m b (Jmp o) = nothing
storing_of m b (CondJmp o) = nothing
storing_of m b (Cmp r o op) = nothing
storing_of m b (CallRet ret address) = nothing
