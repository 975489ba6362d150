-- A step of a valid state is what the machine plans, committed, and recorded where it is accepted: the machine's own step is its
-- plan committed. Assumes nothing.
use mathlib.Core.Path.{◌≡◌, refl, sym, ap, ◌∙◌}
use mathlib.Core.Bool.{Bool, true, false}
use mathlib.Core.List.{List}
use Prim.Native.Nat.{ℕ, ◌+◌, ◌<◌, ◌≤◌, min, max}
use lib.Dec.{eqb}
use lib.ListN.{length}
use borrow.Author.Tests.{eqb-false}
use native.Mathlib.Omega.{arith}
use Rattle.std.specs.Prelude.{Ok}
use Rattle.base.specs.Choice.{cond}
use Rattle.base.specs.Told.{Told, is, no}
use Rattle.instruction.specs.declared.Register.TheVariants.{PC}
use Rattle.memory.specs.Bytes.{Lent}
use Rattle.memory.specs.Words.{made}
use Rattle.machine.specs.Moves.{regs, moved_by}
use Rattle.machine.specs.Registers.{put}
use Rattle.machine.specs.States as machines
use Rattle.machine.specs.declared.Move.{Move}
use Rattle.machine.specs.declared.Registers.{Registers}
use Rattle.machine.specs.declared.StepAnswer.{StepAnswer}
use Rattle.machine.specs.declared.StepAnswer.TheVariants.{Continue, Debug, Stop}
use Rattle.machine.specs.Plan.{Planned, refusal, plan}
use Rattle.machine.specs.Step as machine
use Rattle.machine.proofs.Laws as machine_laws
use Rattle.records.specs.Slots.{room, slot_after}
use Rattle.records.proofs.Laws.{room-length}
use Rattle.records.proofs.Ring.{after-lt}
use Rattle.records.specs.declared.Record.{Record}
use Rattle.journal.specs.declared.State.{State}
use Rattle.journal.specs.States.{Whole, whole, state, valid, valid_whole}
use Rattle.journal.proofs.StateLaws.{valid-of, valid-machine, valid-held, valid-next}
use Rattle.journal.specs.Step.{result_of, is_accepted, record_of, advanced, noted, recorded, moved, taken, step}

-- what the machine's own plan is, over the whole state
abbrev pub plan_of : Whole → Planned
plan_of w = plan w.state.machine w.bytes

-- and the machine and the bytes after it is committed
abbrev pub committed_of : Whole → machine.After
committed_of w = machine.committed w.state.machine w.bytes (plan_of w)

module _ (w : Whole) (v : valid_whole w ≡ true) where
  step-taken : step w ≡ taken w (committed_of w)
  unfolding step
  step-taken = rw (v, machine_laws.valid-step w.state.machine w.bytes (valid-machine w.state w.bytes.dev w.journal v))

  committed-parts : committed_of w ≡ machine.after (plan_of w).answer (machines.with w.state.machine (plan_of w).registers) (made (plan_of w).changes w.bytes)
  committed-parts = machine_laws.committed-as w.state.machine w.bytes (plan_of w)

  -- Stop and refusals
  pub step-not : is_accepted (plan_of w).answer ≡ false → step w ≡ result_of (plan_of w).answer w
  unfolding taken
  step-not f = step-taken ∙ ap (taken w) committed-parts ∙ rw f

  -- Continue and Debug
  pub step-accepted : is_accepted (plan_of w).answer ≡ true
      → step w ≡ result_of (plan_of w).answer (recorded (record_of w.state.machine.registers w.bytes (plan_of w).changes) (moved w (committed_of w)))
  unfolding taken
  step-accepted t =
      let r = record_of w.state.machine.registers w.bytes (plan_of w).changes in
      step-taken ∙ ap (taken w) committed-parts
      ∙ rw t (ap (λ (a : machine.After). result_of (plan_of w).answer (recorded r (moved w a))) (sym committed-parts))

  -- the same, part by part, as the code has them: the plan p, the machine's step a, the record r, the state and the journal after it
  pub step-made : (p : Planned) (a : machine.After) (r : Record) (s : State) (j : List ℕ) → p ≡ plan_of w → is_accepted p.answer ≡ true
      → r ≡ record_of w.state.machine.registers w.bytes p.changes
      → a ≡ machine.committed w.state.machine w.bytes p
      → s ≡ advanced (state a.machine w.state.next w.state.held) (room w.journal)
      → j ≡ noted w.state.next (room w.journal) r w.journal
      → result_of p.answer (whole s a.bytes j) ≡ step w
  step-made p a r s j e t f g h i = rw (h, i, f, g, e) (sym (step-accepted (rw (← e) t)))

-- ---- it stays valid

-- one record more held, in a journal as long as it was
pub advanced-valid : (s : State) (dev journal later : List ℕ) → length later ≡ length journal → valid s dev journal ≡ true → valid (advanced s (room journal)) dev later ≡ true
unfolding advanced
advanced-valid s dev journal later e v = go (eqb (room journal) 0) refl
  where
    same : room later ≡ room journal
    same = room-length later journal e

    next : s.next < max 1 (room journal)
    next = valid-next s dev journal v

    tables : machines.valid s.machine dev ≡ true
    tables = valid-machine s dev journal v

    most : s.held ≤ room journal
    most = valid-held s dev journal v

    go : (t : Bool) → eqb (room journal) 0 ≡ t → valid (cond t s (state s.machine (slot_after (room journal) s.next) (min (s.held + 1) (room journal)))) dev later ≡ true
    go true f = valid-of s dev later tables (omega (arith, most, same)) (omega (arith, next, same))
    go false f =
        let z : 0 < room journal = omega (arith, eqb-false (room journal) 0 f) in
        let h : min (s.held + 1) (room journal) ≤ room later = omega (arith, same) in
        let n : slot_after (room journal) s.next < max 1 (room later) = omega (arith, same, after-lt (room journal) s.next z) in
        valid-of (state s.machine (slot_after (room journal) s.next) (min (s.held + 1) (room journal))) dev later tables h n

-- the machine's step, recorded
pub made-valid : (w : Whole) → valid_whole w ≡ true → (a : machine.After) → a ≡ committed_of w → (later : List ℕ) → length later ≡ length w.journal
    → valid (advanced (state a.machine w.state.next w.state.held) (room w.journal)) a.bytes.dev later ≡ true
made-valid w v a e later l =
    let s = w.state in
    let t : machines.valid s.machine w.bytes.dev ≡ true = valid-machine s w.bytes.dev w.journal v in
    let f : a ≡ machine.step s.machine w.bytes = e ∙ sym (machine_laws.valid-step s.machine w.bytes t) in
    let k : machines.valid a.machine a.bytes.dev ≡ true = ap (λ (x : machine.After). machines.valid x.machine x.bytes.dev) f ∙ machine_laws.step-valid s.machine w.bytes t in
    advanced-valid (state a.machine s.next s.held) a.bytes.dev w.journal later l
    (valid-of (state a.machine s.next s.held) a.bytes.dev w.journal k (valid-held s w.bytes.dev w.journal v) (valid-next s w.bytes.dev w.journal v))

-- ---- a turn of a run, as the code has it: the registers are stored last, into the state whose ring has gone on

-- whatever is not Stop is accepted
pub accepted-other : (a : StepAnswer) → (a ≡ Stop → ⊥) → is_accepted (is a) ≡ true
unfolding is_accepted
accepted-other Continue n = refl
accepted-other Debug n = refl
accepted-other Stop n = absurd (n refl)

-- what is not accepted leaves all there is
left : (w : Whole) → valid_whole w ≡ true → (a : Told StepAnswer) → (plan_of w).answer ≡ a → is_accepted a ≡ false → result_of a w ≡ step w
left w v a e f = sym (step-not w v (ap is_accepted e ∙ f) ∙ ap (λ (x : Told StepAnswer). result_of x w) e)

pub left-refused : (w : Whole) → valid_whole w ≡ true → (n : ℕ) → refusal w.state.machine.registers n ≡ plan_of w → result_of (no n) w ≡ step w
unfolding refusal is_accepted
left-refused w v n e = left w v (no n) (ap (λ (p : Planned). p.answer) (sym e)) refl

pub left-stopped : (w : Whole) → valid_whole w ≡ true → (m : Move) → moved_by w.state.machine.registers (Ok m) ≡ plan_of w → m.answer ≡ Stop
    → result_of (is Stop) w ≡ step w
unfolding is_accepted
left-stopped w v m e s = left w v (is Stop) (ap (λ (p : Planned). p.answer) (sym e) ∙ ap is s) refl

-- the ring goes on, whatever the registers
advanced-with : (s : State) (t : Registers) (d : ℕ)
    → state (machines.with (advanced s d).machine t) (advanced s d).next (advanced s d).held ≡ advanced (state (machines.with s.machine t) s.next s.held) d
unfolding advanced
advanced-with s t d = go (eqb d 0)
  where
    go : (u : Bool)
        → (let x = cond u s (state s.machine (slot_after d s.next) (min (s.held + 1) d)) in state (machines.with x.machine t) x.next x.held)
        ≡ cond u (state (machines.with s.machine t) s.next s.held) (state (machines.with s.machine t) (slot_after d s.next) (min (s.held + 1) d))
    go true = refl
    go false = refl

advanced-registers : (s : State) (d : ℕ) → (advanced s d).machine.registers ≡ s.machine.registers
unfolding advanced
advanced-registers s d = go (eqb d 0)
  where
    go : (u : Bool) → (cond u s (state s.machine (slot_after d s.next) (min (s.held + 1) d))).machine.registers ≡ s.machine.registers
    go true = refl
    go false = refl

pub record Turned (w : Whole) (a : StepAnswer) (s : State) (b : Lent) (j : List ℕ) : Type 0 where
  pub comes : result_of (is a) (whole s b j) ≡ step w
  pub stays : valid s b.dev j ≡ true

pub turned : (w : Whole) → valid_whole w ≡ true → (m : Move) → moved_by w.state.machine.registers (Ok m) ≡ plan_of w → is_accepted (is m.answer) ≡ true
    → (d : ℕ) → d ≡ room w.journal → (s : State) → s ≡ advanced w.state d
    → (g : List ℕ) → regs g ≡ put (put s.machine.registers m.register m.value) PC m.pc
    → (b : Lent) → b ≡ made m.changes w.bytes
    → (j : List ℕ) → j ≡ noted w.state.next d (record_of w.state.machine.registers w.bytes m.changes) w.journal → length j ≡ length w.journal
    → Turned w m.answer (state (machines.with s.machine (regs g)) s.next s.held) b j
turned w v m e t d f s h g k b i j n l =
    let p = moved_by w.state.machine.registers (Ok m) in
    let a = machine.after (is m.answer) (machines.with w.state.machine p.registers) b in
    let q : a ≡ machine.committed w.state.machine w.bytes p =
    ap (λ (x : Lent). machine.after (is m.answer) (machines.with w.state.machine p.registers) x) i
    ∙ sym (machine_laws.committed-as w.state.machine w.bytes p) in
    let set : Registers → Registers = λ x. put (put x m.register m.value) PC m.pc in
    let u : regs g ≡ p.registers = k ∙ ap set (ap (λ (x : State). x.machine.registers) h ∙ advanced-registers w.state d) in
    let z : state (machines.with s.machine (regs g)) s.next s.held ≡ advanced (state (machines.with w.state.machine p.registers) w.state.next w.state.held) (room w.journal) =
    ap (λ (x : State). state (machines.with x.machine (regs g)) x.next x.held) h
    ∙ ap (λ (x : Registers). state (machines.with (advanced w.state d).machine x) (advanced w.state d).next (advanced w.state d).held) u
    ∙ advanced-with w.state p.registers d
    ∙ ap (advanced (state (machines.with w.state.machine p.registers) w.state.next w.state.held)) f in
    let r = record_of w.state.machine.registers w.bytes m.changes in
    let o : j ≡ noted w.state.next (room w.journal) r w.journal = n ∙ ap (λ (x : ℕ). noted w.state.next x r w.journal) f in
    let y = made-valid w v a (q ∙ ap (machine.committed w.state.machine w.bytes) e) j l in
    record {
      comes = step-made w v p a r (state (machines.with s.machine (regs g)) s.next s.held) j e t refl q z o;
      stays = ap (λ (x : State). valid x b.dev j) z ∙ y;
    }
