-- What the crates above may use of a step: what is not accepted changes nothing, and every step keeps lengths, tables, eight
-- registers and validity, since a plan is made by memory alone. Assumes nothing.
use mathlib.Core.Path.{◌≡◌, refl, sym, ap, ◌∙◌}
use mathlib.Core.Bool.{Bool, true, false}
use mathlib.Core.List.{List}
use Prim.Native.Nat.{ℕ, ◌+◌, ◌≤◌}
use native.Mathlib.Omega.{arith}
use lib.ListN.{length}
use Rattle.base.specs.Choice.{cond}
use Rattle.base.specs.Told.{Told, is, no}
use Rattle.base.specs.Addresses.{raised_pc}
use Rattle.std.specs.Prelude.{Some}
use Rattle.base.proofs.AddressLaws.{reached-at}
use Rattle.base.proofs.ToldLaws.{is-not-no, Numbered}
use Rattle.instruction.specs.Decode.{decode}
use Rattle.instruction.specs.declared.Register.TheVariants.{PC}
use Rattle.instruction.specs.declared.Instruction.TheVariants.{Noop}
use Rattle.map.proofs.Laws.{valid-length}
use Rattle.memory.specs.Bytes.{Lent}
use Rattle.memory.specs.Words.{read_word, made}
use Rattle.memory.specs.declared.Changes.TheVariants.{Nothing}
use Rattle.memory.proofs.Laws.{SameLengths, same-lengths}
use Rattle.memory.proofs.Decisions.{made-lengths, nothing-made}
use Rattle.machine.specs.Registers.{get, put, flag}
use Rattle.machine.specs.Acts.{noop, act}
use Rattle.machine.specs.Plan.{Planned, plans, refusal, raised, finished, decoded, fetched, plan}
use Rattle.machine.specs.Step.{After, after, committed, step}
use Rattle.machine.specs.States.{valid, with}
use Rattle.machine.specs.declared.Machine.{Machine}
use Rattle.machine.specs.declared.StepAnswer.{StepAnswer}
use Rattle.machine.specs.declared.StepAnswer.TheVariants.{Continue, Debug, Stop}
use Rattle.machine.proofs.PlanLaws.{plan-refused, plan-numbered, plan-stops, plan-eight}
use Rattle.machine.proofs.RegisterLaws.{get-own}

-- validity looks at the tables, and at how many device bytes are lent
pub valid_same : (m k : Machine) (d e : List ℕ) → m.map ≡ k.map → length d ≡ length e → valid m d ≡ valid k e
unfolding valid
valid_same m k d e p q = rw p (valid-length k.map d e q)

module _ (m : Machine) (b : Lent) where
  -- ---- a step, valid state or not

  pub invalid-step : valid m b.dev ≡ false → step m b ≡ after (no 1) m b
  unfolding step
  invalid-step h = rw h

  pub valid-step : valid m b.dev ≡ true → step m b ≡ committed m b (plan m b)
  unfolding step
  valid-step h = rw h

  -- what is planned, committed
  pub committed-as : (p : Planned) → committed m b p ≡ after p.answer (with m p.registers) (made p.changes b)
  unfolding committed
  committed-as p = refl

  -- ---- what is not accepted changes nothing

  -- a plan that leaves the registers and stores nothing
  nothing-done : (a : Told StepAnswer) → plan m b ≡ plans a m.registers Nothing → committed m b (plan m b) ≡ after a m b
  unfolding committed
  nothing-done a e = ap (committed m b) e ∙ ap (λ (x : Lent). after a m x) (nothing-made b)

  -- so a step whose plan is refused leaves all
  pub refused_step : (n : ℕ) → valid m b.dev ≡ true → refusal m.registers n ≡ plan m b → after (no n) m b ≡ step m b
  unfolding refusal
  refused_step n h e = sym (valid-step h ∙ nothing-done (no n) (sym e))

  answer-of : valid m b.dev ≡ true → (step m b).answer ≡ (plan m b).answer
  unfolding committed
  answer-of h = ap (λ (x : After). x.answer) (valid-step h)

  -- a refused step
  pub step-refused : (n : ℕ) → (step m b).answer ≡ no n → step m b ≡ after (no n) m b
  step-refused n = go (valid m b.dev) refl
    where
      go : (t : Bool) → valid m b.dev ≡ t → (step m b).answer ≡ no n → step m b ≡ after (no n) m b
      go false h e = invalid-step h ∙ ap (λ (a : Told StepAnswer). after a m b) (sym (ap (λ (x : After). x.answer) (invalid-step h)) ∙ e)
      go true h e = valid-step h ∙ nothing-done (no n) (plan-refused m b n (sym (answer-of h) ∙ e))

  -- Stop, which FLAGS bit 0 alone decides
  pub step-stops : valid m b.dev ≡ true → flag m.registers 0 ≡ true → step m b ≡ after (is Stop) m b
  unfolding plan
  step-stops h f = valid-step h ∙ nothing-done (is Stop) (rw f)

  -- so a step that answers Stop changes nothing
  pub step-stopped : (step m b).answer ≡ is Stop → step m b ≡ after (is Stop) m b
  step-stopped = go (valid m b.dev) refl
    where
      go : (t : Bool) → valid m b.dev ≡ t → (step m b).answer ≡ is Stop → step m b ≡ after (is Stop) m b
      go false h e = is-not-no Stop 1 (sym e ∙ ap (λ (x : After). x.answer) (invalid-step h))
      go true h e = step-stops h (plan-stops m b (sym (answer-of h) ∙ e))

  -- what holds where the state is not valid, and after what was planned is made, holds after every step
  every-step : (P : After → Type 0) → P (after (no 1) m b) → P (committed m b (plan m b)) → P (step m b)
  every-step P x y = go (valid m b.dev) refl
    where
      go : (t : Bool) → valid m b.dev ≡ t → P (step m b)
      go false h = rw (invalid-step h) x
      go true h = rw (valid-step h) y

  -- a refusal of a step has a number from 1 to 9
  pub step-numbered : Numbered 1 9 (step m b).answer
  unfolding committed
  step-numbered = every-step (λ (x : After). Numbered 1 9 x.answer) (omega arith, omega arith) (go (plan m b).answer (plan-numbered m b))
    where
      go : (x : Told StepAnswer) → Numbered 2 9 x → Numbered 1 9 x
      go (is a) k = tt
      go (no n) k = (omega (arith, k.0), k.1)

  -- ---- what every step keeps

  pub step-lengths : SameLengths (step m b).bytes b
  unfolding committed
  step-lengths = every-step (λ (x : After). SameLengths x.bytes b) (same-lengths b) (made-lengths (plan m b).changes b)

  pub step_map : (step m b).machine.map ≡ m.map
  unfolding committed
  step_map = every-step (λ (x : After). x.machine.map ≡ m.map) refl refl

  pub step-mode : (step m b).machine.mode ≡ m.mode
  unfolding committed
  step-mode = every-step (λ (x : After). x.machine.mode ≡ m.mode) refl refl

  -- eight registers stay eight
  pub step-eight : length m.registers.value ≡ 8 → length (step m b).machine.registers.value ≡ 8
  unfolding committed
  step-eight h = every-step (λ (x : After). length x.machine.registers.value ≡ 8) h (plan-eight m b h)

  -- a valid state stays valid
  pub step-valid : valid m b.dev ≡ true → valid (step m b).machine (step m b).bytes.dev ≡ true
  step-valid h = valid_same (step m b).machine m (step m b).bytes.dev b.dev step_map step-lengths.dev ∙ h

  -- ---- Noop raises PC, and does nothing else

  pub step-noop : (w n : ℕ) → valid m b.dev ≡ true → flag m.registers 0 ≡ false
      → read_word m.map b (get m.registers PC) ≡ is (Some w) → decode w ≡ is Noop → raised_pc (get m.registers PC) ≡ Some n
      → step m b ≡ after (is (cond m.mode.debug Debug Continue)) (with m (put m.registers PC n)) b
  unfolding committed plan fetched decoded finished raised act noop
  step-noop w n h f r d p =
      let e : plan m b ≡ plans (is (cond m.mode.debug Debug Continue)) (put m.registers PC n) Nothing = rw (f, r, d, p) in
      valid-step h ∙ ap (committed m b) e ∙ ap (λ (x : Lent). after (is (cond m.mode.debug Debug Continue)) (with m (put m.registers PC n)) x) (nothing-made b)

  -- so a step that does nothing is ruled out
  pub noop-raises : (w : ℕ) → valid m b.dev ≡ true → flag m.registers 0 ≡ false
      → read_word m.map b (get m.registers PC) ≡ is (Some w) → decode w ≡ is Noop → get m.registers PC + 2 ≤ 65535 → length m.registers.value ≡ 8
      → get (step m b).machine.registers PC ≡ get m.registers PC + 2
  noop-raises w h f r d p l =
      ap (λ (x : After). get x.machine.registers PC) (step-noop w (get m.registers PC + 2) h f r d (reached-at (get m.registers PC + 2) p))
      ∙ get-own m.registers PC (get m.registers PC + 2) l
