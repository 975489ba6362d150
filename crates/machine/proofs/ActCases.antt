-- Three properties, of answers, of registers and of what is stored, hold of every act, and so of every plan, where they hold of
-- its parts, and what is refused is refused with 2 to 9: by cases on the twelve instructions, once for all that is to be known of
-- them. Assumes nothing.
use mathlib.Core.Path.{◌≡◌, refl, subst}
use mathlib.Core.Bool.{Bool, true, false}
use Prim.Native.Nat.{ℕ, ◌≤◌}
use Rattle.std.specs.Prelude.{Option, Some, None}
use native.Mathlib.Omega as Omega
use Rattle.base.specs.Choice.{cond}
use Rattle.base.specs.Told.{Told, is, no, ◌>>=◌}
use Rattle.base.specs.Words.{low_of}
use Rattle.base.specs.Addresses.{base_plus_shift, raised_pc, address_or}
use Rattle.base.proofs.ToldLaws.{Numbered}
use Rattle.instruction.specs.Decode.{decode}
use Rattle.instruction.proofs.DecodedLaws.{decode-numbered}
use Rattle.instruction.specs.declared.Register.{Register}
use Rattle.instruction.specs.declared.Register.TheVariants.{M, PC, FLAGS}
use Rattle.instruction.specs.declared.Operand.{Operand}
use Rattle.instruction.specs.declared.ArithOp.{ArithOp}
use Rattle.instruction.specs.declared.ArithOp.TheVariants.{Add, Sub, Mul, Div}
use Rattle.instruction.specs.declared.Instruction.{Instruction}
use Rattle.instruction.specs.declared.Instruction.TheVariants.{Noop, Mov, MovShift, Arith, ArithRegReg, LdrStr, LdbStb, Cpy, Jmp, CondJmp, Cmp, CallRet}
use Rattle.arithmetic.specs.Operators.{arith_result, arithmetic_result}
use Rattle.arithmetic.proofs.Laws.{arith-numbered, arithmetic-numbered}
use Rattle.arithmetic.specs.Compares.{compare}
use Rattle.arithmetic.specs.Flags.{compared, failed}
use Rattle.arithmetic.specs.Shifts.{moved}
use Rattle.arithmetic.specs.Totals.{remainder}
use Rattle.map.specs.declared.Map.{Map}
use Rattle.map.specs.declared.Place.{Place}
use Rattle.memory.specs.Bytes.{Lent, read_byte}
use Rattle.memory.specs.Words.{read_word, Decided, byte_decision, word_decision}
use Rattle.memory.proofs.Decisions.{byte-numbered, word-numbered}
use Rattle.memory.proofs.WordLaws.{read-numbered}
use Rattle.memory.specs.declared.Stored.{Stored}
use Rattle.memory.specs.declared.Stored.TheVariants.{Done, Failed}
use Rattle.memory.specs.declared.Changes.{Changes}
use Rattle.memory.specs.declared.Changes.TheVariants.{Nothing}
use Rattle.machine.specs.Registers.{get, put, operand, flag}
use Rattle.machine.specs.Acts.{Act, next, jump, onward, noop, mov, mov_shift, result_of, at_old_sp, kept, arith, arith_reg_reg, marked, cmp, jmp, cond_jmp, call, call_ret, word_loaded, byte_loaded, fault, ended, storing, word_at, byte_at, addressed, copied, cpy, act}
use Rattle.machine.specs.Plan.{Planned, plans, refusal, raised, finished, decoded, fetched, plan}
use Rattle.machine.specs.Stores.{Storing, nothing, one_byte, one_word, at_address, copy_to, remainder_to, storing_of}
use Rattle.machine.specs.declared.Machine.{Machine}
use Rattle.machine.specs.declared.Registers.{Registers}
use Rattle.machine.specs.declared.StepAnswer.{StepAnswer}
use Rattle.machine.specs.declared.StepAnswer.TheVariants.{Continue, Debug, Stop}

-- what is stored, as memory decides it
abbrev pub changes_of : Map → Lent → Storing → Changes
changes_of m b nothing = Nothing
changes_of m b (one_byte a v) = (byte_decision m b a v).changes
changes_of m b (one_word a w) = (word_decision m b a w).changes

-- three properties: of answers, of registers, of what is stored; and what every plan needs of the first two
pub record Properties (m : Machine) : Type 1 where
  pub Answered : StepAnswer → Type 0
  pub Held : Registers → Type 0
  pub Stores : Changes → Type 0
  pub continues : Answered Continue
  pub debugs : Answered Debug
  pub stops : flag m.registers 0 ≡ true → Answered Stop
  pub starts : Held m.registers
  pub puts : (t : Registers) (r : Register) (v : ℕ) → Held t → Held (put t r v)

module _ (m : Machine) (b : Lent) (properties : Properties m) where
  open properties use {Answered, Held, Stores, continues, debugs, stops, starts, puts}

  -- the registers at the start
  abbrev s : Registers
  s = m.registers

  abbrev pub StoresOf : Storing → Type 0
  StoresOf x = Stores (changes_of m.map b x)

  -- ---- what an act gives, and what a plan gives

  abbrev pub Good : Told Act → Type 0
  Good (is (next a t c)) = Answered a × Held t × Stores c
  Good (is (jump t)) = Held t × Stores Nothing
  Good (no n) = (2 ≤ n) × (n ≤ 9)

  -- a plan by its answer: one that is refused is the refusal, with 2 to 9, and changes nothing
  abbrev pub GoodAs : Planned → Told StepAnswer → Type 0
  GoodAs p (is a) = Answered a × Held p.registers × Stores p.changes
  GoodAs p (no n) = (p ≡ plans (no n) s Nothing) × (2 ≤ n) × (n ≤ 9)

  abbrev pub GoodPlan : Planned → Type 0
  GoodPlan p = GoodAs p p.answer

  -- ---- moves, operators, jumps

  one-put : (r : Register) (v : ℕ) → Held (put s r v)
  one-put r v = puts s r v starts

  noop-answers : (t : Bool) → Answered (cond t Debug Continue)
  noop-answers true = debugs
  noop-answers false = continues

  result-good : (d : Register) (c : Changes) (x : Told ℕ) → Numbered 7 8 x → Stores c → Good (result_of s d c x)
  unfolding result_of
  result-good d c (is v) k h = (continues, one-put d v, h)
  result-good d c (no n) k h = (omega (Omega.arith, k.0), omega (Omega.arith, k.1))

  kept-stores : (d : Register) (o : Operand) (op : ArithOp) → StoresOf (storing_of m b (Arith d o op))
      → Stores (kept m.map b s op (get s d) (operand s o))
  unfolding storing_of kept remainder_to at_old_sp
  kept-stores d o Add h = h
  kept-stores d o Sub h = h
  kept-stores d o Mul h = h
  kept-stores d o Div h = go (flag s 1) (remainder (get s d) (operand s o)) h
    where
      go : (t : Bool) (x : Told ℕ) → StoresOf (cond t (remainder_to s x) nothing) → Stores (cond t (at_old_sp m.map b s x) Nothing)
      go true (is v) h = h
      go true (no n) h = h
      go false x h = h

  cond-jmp-good : (o : Operand) → Stores Nothing → Good (cond_jmp s o)
  unfolding cond_jmp jmp marked
  cond-jmp-good o h = go (flag s 3)
    where
      go : (t : Bool) → Good (cond t (jmp (marked s false) o) (onward s))
      go true = (puts (marked s false) PC (operand (marked s false) o) (one-put FLAGS (compared (get s FLAGS) false)), h)
      go false = (continues, starts, h)

  call-good : (address : ℕ) → Stores Nothing → Good (call s address)
  unfolding call
  call-good address h = go (raised_pc (get s PC))
    where
      go : (x : Option ℕ) → Good (address_or 9 x >>= λ n. is (jump (put (put s PC address) M n)))
      go (Some n) = (puts (put s PC address) M n (one-put PC address), h)
      go None = (omega Omega.arith, omega Omega.arith)

  -- ---- loads and stores

  word-loaded-good : (r : Register) (x : Told (Option ℕ)) → Numbered 3 3 x → Stores Nothing → Good (word_loaded s r x)
  unfolding word_loaded
  word-loaded-good r (is (Some w)) k h = (continues, one-put r w, h)
  word-loaded-good r (is None) k h = (continues, starts, h)
  word-loaded-good r (no n) k h = (omega (Omega.arith, k.0), omega (Omega.arith, k.1))

  byte-loaded-good : (r : Register) (x : Option (ℕ × Place)) → Stores Nothing → Good (byte_loaded s r x)
  unfolding byte_loaded
  byte-loaded-good r (Some (v, p)) h = (continues, one-put r v, h)
  byte-loaded-good r None h = (continues, starts, h)

  fault-held : Held (fault s)
  unfolding fault
  fault-held = one-put FLAGS (failed (get s FLAGS))

  storing-good : (d : Decided) → Numbered 3 3 d.outcome → Stores d.changes → Good (storing s d)
  unfolding storing ended
  storing-good d k h = go d.outcome k
    where
      go : (x : Told Stored) → Numbered 3 3 x → Good (ended s d.changes x)
      go (is Done) k = (continues, starts, h)
      go (is Failed) k = (continues, fault-held, h)
      go (no n) k = (omega (Omega.arith, k.0), omega (Omega.arith, k.1))

  byte-good : (a v : ℕ) → StoresOf (one_byte a v) → Good (storing s (byte_decision m.map b a v))
  byte-good a v h = storing-good (byte_decision m.map b a v) (byte-numbered m.map b a v) h

  -- an act at an address, where there is such an address
  addressed-good : (a : Register) (shift : ℕ) (acts : ℕ → Told Act) → ((n : ℕ) → base_plus_shift (get s a) shift ≡ Some n → Good (acts n))
      → Good (addressed s a shift acts)
  unfolding addressed
  addressed-good a shift acts good = go (base_plus_shift (get s a) shift) refl
    where
      go : (x : Option ℕ) → base_plus_shift (get s a) shift ≡ x → Good (address_or 3 x >>= acts)
      go (Some n) e = good n e
      go None e = (omega Omega.arith, omega Omega.arith)

  -- what it stores is stored there
  stored_there : (storing : ℕ → Storing) {x : Option ℕ} {n : ℕ} → x ≡ Some n → StoresOf (at_address x storing) → StoresOf (storing n)
  unfolding at_address
  stored_there storing e h = subst (λ (x : Option ℕ). StoresOf (at_address x storing)) e h

  str-good : (r : Register) (a : ℕ) → StoresOf (one_word a (get s r)) → Good (word_at m.map b s r true a)
  unfolding word_at
  str-good r a h = storing-good (word_decision m.map b a (get s r)) (word-numbered m.map b a (get s r)) h

  ldr-good : (r : Register) → Stores Nothing → (a : ℕ) → Good (word_at m.map b s r false a)
  unfolding word_at
  ldr-good r h a = word-loaded-good r (read_word m.map b a) (read-numbered m.map b a) h

  stb-good : (r : Register) (a : ℕ) → StoresOf (one_byte a (low_of (get s r))) → Good (byte_at m.map b s r true a)
  unfolding byte_at
  stb-good r a h = byte-good a (low_of (get s r)) h

  ldb-good : (r : Register) → Stores Nothing → (a : ℕ) → Good (byte_at m.map b s r false a)
  unfolding byte_at
  ldb-good r h a = byte-loaded-good r (read_byte m.map b a) h

  copied-good : (to : ℕ) (x : Option (ℕ × Place)) → StoresOf (copy_to to x) → Good (copied m.map b s to x)
  unfolding copied copy_to
  copied-good to (Some (v, p)) h = byte-good to v h
  copied-good to None h = (continues, fault-held, h)

  -- ---- all twelve, where the property holds of what the instruction stores

  pub act-good : (i : Instruction) → StoresOf (storing_of m b i) → Good (act m b i)
  unfolding act storing_of noop mov mov_shift arith arith_reg_reg marked cmp jmp call_ret cpy
  act-good Noop h = (noop-answers m.mode.debug, starts, h)
  act-good (Mov d o) h = (continues, one-put d (operand s o), h)
  act-good (MovShift d amount left imm) h = (continues, one-put d (moved (get s d) amount left imm), h)
  act-good (Arith d o op) h = result-good d (kept m.map b s op (get s d) (operand s o)) (arith_result op (get s d) (operand s o)) (arith-numbered op (get s d) (operand s o)) (kept-stores d o op h)
  act-good (ArithRegReg d x y op) h = result-good d Nothing (arithmetic_result op (get s x) (get s y)) (arithmetic-numbered op (get s x) (get s y)) h
  act-good (LdrStr r a true shift) h =
      addressed-good a shift (word_at m.map b s r true) (λ n e. str-good r n (stored_there (λ k. one_word k (get s r)) e h))
  act-good (LdrStr r a false shift) h = addressed-good a shift (word_at m.map b s r false) (λ n e. ldr-good r h n)
  act-good (LdbStb r a true shift) h =
      addressed-good a shift (byte_at m.map b s r true) (λ n e. stb-good r n (stored_there (λ k. one_byte k (low_of (get s r))) e h))
  act-good (LdbStb r a false shift) h = addressed-good a shift (byte_at m.map b s r false) (λ n e. ldb-good r h n)
  act-good (Cpy x y) h = copied-good (get s y) (read_byte m.map b (get s x)) h
  act-good (Jmp o) h = (one-put PC (operand s o), h)
  act-good (CondJmp o) h = cond-jmp-good o h
  act-good (Cmp r o op) h = (continues, one-put FLAGS (compared (get s FLAGS) (compare op (get s r) (operand s o))), h)
  act-good (CallRet true address) h = (one-put PC (get s M), h)
  act-good (CallRet false address) h = call-good address h

  -- ---- a plan

  -- PC is raised, or the plan is refused
  pub finished-good : (x : Told Act) → Good x → GoodPlan (finished s x)
  unfolding finished raised refusal
  finished-good (is (next a t c)) g = go (raised_pc (get t PC))
    where
      go : (r : Option ℕ) → GoodPlan (raised s a t c r)
      go (Some pc) = (g.0, puts t PC pc g.1, g.2)
      go None = (refl, omega Omega.arith, omega Omega.arith)
  finished-good (is (jump t)) g = (continues, g.0, g.1)
  finished-good (no n) g = (refl, g.0, g.1)

  -- where it holds of whatever can be stored
  module _ (all : (x : Storing) → StoresOf x) where
    decoded-good : (x : Told Instruction) → Numbered 4 6 x → GoodPlan (decoded m b x)
    unfolding decoded refusal
    decoded-good (is i) k = finished-good (act m b i) (act-good i (all (storing_of m b i)))
    decoded-good (no n) k = (refl, omega (Omega.arith, k.0), omega (Omega.arith, k.1))

    fetched-good : (x : Told (Option ℕ)) → Numbered 3 3 x → GoodPlan (fetched m b x)
    unfolding fetched refusal
    fetched-good (is (Some w)) k = decoded-good (decode w) (decode-numbered w)
    fetched-good (is None) k = (refl, omega Omega.arith, omega Omega.arith)
    fetched-good (no n) k = (refl, omega (Omega.arith, k.0), omega (Omega.arith, k.1))

    pub plan-good : GoodPlan (plan m b)
    unfolding plan
    plan-good = go (flag s 0) stops
      where
        go : (t : Bool) → (t ≡ true → Answered Stop) → GoodPlan (cond t (plans (is Stop) s Nothing) (fetched m b (read_word m.map b (get s PC))))
        go true h = (h refl, starts, all nothing)
        go false h = fetched-good (read_word m.map b (get s PC)) (read-numbered m.map b (get s PC))

    -- accepted or refused
    pub plan-gives : Held (plan m b).registers × Stores (plan m b).changes
    plan-gives = go (plan m b).answer plan-good
      where
        go : (x : Told StepAnswer) → GoodAs (plan m b) x → Held (plan m b).registers × Stores (plan m b).changes
        go (is a) g = (g.1, g.2)
        go (no n) e = rw e.0 (starts, all nothing)
