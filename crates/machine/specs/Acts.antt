-- What each instruction does, a rule for each: the registers after it, the bytes it stores, and whether PC is then raised.
use Rattle.std.specs.Prelude.{ℕ, Bool, true, false, Option, Some, None}
use Rattle.base.specs.Choice.{cond}
use Rattle.base.specs.Told.{Told, is, no, ◌>>=◌}
use Rattle.base.specs.Words.{low_of}
use Rattle.base.specs.Addresses.{base_plus_shift, raised_pc, address_or}
use Rattle.instruction.specs.declared.Register.{Register}
use Rattle.instruction.specs.declared.Register.TheVariants.{M, SP, PC, FLAGS}
use Rattle.instruction.specs.declared.Operand.{Operand}
use Rattle.instruction.specs.declared.ArithOp.{ArithOp}
use Rattle.instruction.specs.declared.ArithOp.TheVariants.{Add, Sub, Mul, Div}
use Rattle.instruction.specs.declared.ArithmeticOp.{ArithmeticOp}
use Rattle.instruction.specs.declared.CompareOp.{CompareOp}
use Rattle.instruction.specs.declared.Instruction.{Instruction}
use Rattle.instruction.specs.declared.Instruction.TheVariants.{Noop, Mov, MovShift, Arith, ArithRegReg, LdrStr, LdbStb, Cpy, Jmp, CondJmp, Cmp, CallRet}
use Rattle.arithmetic.specs.Totals.{remainder}
use Rattle.arithmetic.specs.Operators.{arith_result, arithmetic_result}
use Rattle.arithmetic.specs.Compares.{compare}
use Rattle.arithmetic.specs.Shifts.{moved}
use Rattle.arithmetic.specs.Flags.{compared, failed}
use Rattle.map.specs.declared.Map.{Map}
use Rattle.map.specs.declared.Place.{Place}
use Rattle.memory.specs.Bytes.{Lent, read_byte}
use Rattle.memory.specs.Words.{read_word, Decided, byte_decision, word_decision}
use Rattle.memory.specs.declared.Stored.{Stored}
use Rattle.memory.specs.declared.Stored.TheVariants.{Done, Failed}
use Rattle.memory.specs.declared.Changes.{Changes}
use Rattle.memory.specs.declared.Changes.TheVariants.{Nothing}
use Rattle.machine.specs.Registers.{get, put, operand, flag}
use Rattle.machine.specs.declared.Machine.{Machine}
use Rattle.machine.specs.declared.Mode.{Mode}
use Rattle.machine.specs.declared.Registers.{Registers}
use Rattle.machine.specs.declared.StepAnswer.{StepAnswer}
use Rattle.machine.specs.declared.StepAnswer.TheVariants.{Continue, Debug}

-- what acting comes to: an answer, registers in which PC is yet to be raised, and the bytes to be stored;
-- or, for what skips the raising, registers with PC as it stays
pub data Act : Type 0 where
  next : StepAnswer → Registers → Changes → Act
  jump : Registers → Act

-- it goes on with these registers, and stores nothing
abbrev pub onward : Registers → Told Act
onward t = is (next Continue t Nothing)

-- ---- moves, operators, comparison

-- Noop answers Debug in debug mode, all else Continue
unfoldable pub noop : Mode → Registers → Told Act
noop mode s = is (next (cond mode.debug Debug Continue) s Nothing)

unfoldable pub mov : Registers → Register → Operand → Told Act
mov s d o = onward (put s d (operand s o))

unfoldable pub mov_shift : Registers → Register → ℕ → Bool → ℕ → Told Act
mov_shift s d amount left imm = onward (put s d (moved (get s d) amount left imm))

-- what an operator comes to goes into d, while the bytes of c are stored
unfoldable pub result_of : Registers → Register → Changes → Told ℕ → Told Act
result_of s d c (is v) = is (next Continue (put s d v) c)
result_of s d c (no n) = no n

-- the remainder's low byte at the old SP; a failure is ignored
unfoldable pub at_old_sp : Map → Lent → Registers → Told ℕ → Changes
at_old_sp m b s (is v) = (byte_decision m b (get s SP) (low_of v)).changes
at_old_sp m b s (no n) = Nothing

-- what Arith stores: the remainder, for Div with FLAGS bit 1 set
unfoldable pub kept : Map → Lent → Registers → ArithOp → ℕ → ℕ → Changes
kept m b s Add x y = Nothing
kept m b s Sub x y = Nothing
kept m b s Mul x y = Nothing
kept m b s Div x y = cond (flag s 1) (at_old_sp m b s (remainder x y)) Nothing

unfoldable pub arith : Map → Lent → Registers → Register → Operand → ArithOp → Told Act
arith m b s d o op = result_of s d (kept m b s op (get s d) (operand s o)) (arith_result op (get s d) (operand s o))

unfoldable pub arith_reg_reg : Registers → Register → Register → Register → ArithmeticOp → Told Act
arith_reg_reg s d x y op = result_of s d Nothing (arithmetic_result op (get s x) (get s y))

-- FLAGS bit 3: a true compare sets it, a false one clears it, a taken CondJmp clears it
unfoldable pub marked : Registers → Bool → Registers
marked s holds = put s FLAGS (compared (get s FLAGS) holds)

unfoldable pub cmp : Registers → Register → Operand → CompareOp → Told Act
cmp s r o op = onward (marked s (compare op (get s r) (operand s o)))

-- ---- jumps, call and return

unfoldable pub jmp : Registers → Operand → Told Act
jmp s o = is (jump (put s PC (operand s o)))

unfoldable pub cond_jmp : Registers → Operand → Told Act
cond_jmp s o = cond (flag s 3) (jmp (marked s false) o) (onward s)

-- Call sets M to old PC+2: 9 where there is no such address
unfoldable pub call : Registers → ℕ → Told Act
call s address = address_or 9 (raised_pc (get s PC)) >>= λ n. is (jump (put (put s PC address) M n))

unfoldable pub call_ret : Registers → Bool → ℕ → Told Act
call_ret s true address = is (jump (put s PC (get s M)))
call_ret s false address = call s address

-- ---- loads, stores, Cpy

-- a failed load leaves its register
unfoldable pub word_loaded : Registers → Register → Told (Option ℕ) → Told Act
word_loaded s r (is (Some w)) = onward (put s r w)
word_loaded s r (is None) = onward s
word_loaded s r (no n) = no n

unfoldable pub byte_loaded : Registers → Register → Option (ℕ × Place) → Told Act
byte_loaded s r (Some (v, p)) = onward (put s r v)
byte_loaded s r None = onward s

-- FLAGS bits 0 and 2
unfoldable pub fault : Registers → Registers
fault s = put s FLAGS (failed (get s FLAGS))

-- a failed store sets them; what it stored stays
unfoldable pub ended : Registers → Changes → Told Stored → Told Act
ended s c (is Done) = is (next Continue s c)
ended s c (is Failed) = is (next Continue (fault s) c)
ended s c (no n) = no n

-- as memory decides it
unfoldable pub storing : Registers → Decided → Told Act
storing s d = ended s d.changes d.outcome

-- the word, or the byte, at an address: stored from r, or loaded into it
unfoldable pub word_at : Map → Lent → Registers → Register → Bool → ℕ → Told Act
word_at m b s r true a = storing s (word_decision m b a (get s r))
word_at m b s r false a = word_loaded s r (read_word m b a)

unfoldable pub byte_at : Map → Lent → Registers → Register → Bool → ℕ → Told Act
byte_at m b s r true a = storing s (byte_decision m b a (low_of (get s r)))
byte_at m b s r false a = byte_loaded s r (read_byte m b a)

-- at base plus shift: 3 where there is no such address
unfoldable pub addressed : Registers → Register → ℕ → (ℕ → Told Act) → Told Act
addressed s a shift acts = address_or 3 (base_plus_shift (get s a) shift) >>= acts

-- an unmapped source is a failed Cpy too
unfoldable pub copied : Map → Lent → Registers → ℕ → Option (ℕ × Place) → Told Act
copied m b s to (Some (v, p)) = storing s (byte_decision m b to v)
copied m b s to None = onward (fault s)

unfoldable pub cpy : Map → Lent → Registers → Register → Register → Told Act
cpy m b s x y = copied m b s (get s y) (read_byte m b (get s x))

-- ---- all twelve

unfoldable pub act : Machine → Lent → Instruction → Told Act
act m b Noop = noop m.mode m.registers
act m b (Mov d o) = mov m.registers d o
act m b (MovShift d amount left imm) = mov_shift m.registers d amount left imm
act m b (Arith d o op) = arith m.map b m.registers d o op
act m b (ArithRegReg d x y op) = arith_reg_reg m.registers d x y op
act m b (LdrStr r a store shift) = addressed m.registers a shift (word_at m.map b m.registers r store)
act m b (LdbStb r a store shift) = addressed m.registers a shift (byte_at m.map b m.registers r store)
act m b (Cpy x y) = cpy m.map b m.registers x y
act m b (Jmp o) = jmp m.registers o
act m b (CondJmp o) = cond_jmp m.registers o
act m b (Cmp r o op) = cmp m.registers r o op
act m b (CallRet ret address) = call_ret m.registers ret address
