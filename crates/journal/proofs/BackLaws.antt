-- What everyone above may use of step-back: it has four answers, three of them change nothing, and what the fourth one restores
-- keeps lengths, tables and slots; and that a refused forget changes nothing. Assumes nothing.
use Prim.Native.Nat.{ℕ, ◌+◌, ◌<◌}
use mathlib.Core.Path.{◌≡◌, refl, ◌∙◌, subst⁻¹}
use mathlib.Core.Bool.{Bool, true, false, not}
use mathlib.Core.List.{List}
use lib.Dec.{eqb}
use lib.ListN.{length}
use borrow.Author.Tests.{eqb-true, eqb-false, eq-eqb, ne_eqb}
use native.Mathlib.Omega.{arith}
use Rattle.std.specs.Prelude.{Option, Some, None}
use Rattle.base.specs.Choice.{cond}
use Rattle.map.specs.declared.Map.{Map}
use Rattle.machine.proofs.Laws as machine-laws
use Rattle.memory.specs.Bytes.{Lent, store_byte}
use Rattle.memory.proofs.Laws.{SameLengths, same-lengths, then-lengths, store-lengths}
use Rattle.records.specs.Slots.{room, slot_before}
use Rattle.records.specs.declared.Record.{Record}
use Rattle.records.proofs.Laws.{record-eight}
use Rattle.records.proofs.Ring.{before-lt}
use Rattle.journal.specs.States.{Whole, valid, valid_whole, emptied}
use Rattle.journal.specs.Back.{Backed, backed, used_by, fits, restored, newest, with, undone, back_order, back_number, step_back, forget_number, forgotten}
use Rattle.journal.specs.declared.State.{State}
use Rattle.journal.specs.declared.Used.{Used}
use Rattle.journal.specs.declared.Used.TheVariants.{Neither, First, Both}
use Rattle.journal.proofs.StateLaws.{Parts, parts, together}

-- the record fits the state
abbrev pub fitting : Whole → Record → Bool
fitting w r = fits w.state.machine.map w.bytes r (used_by r.kind)

-- what is restored has the lengths it had
pub restored-lengths : (m : Map) (b : Lent) (r : Record) (u : Option Used) → SameLengths (restored m b r u) b
unfolding restored
restored-lengths m b r (Some Neither) = same-lengths b
restored-lengths m b r (Some First) = store-lengths m b r.first.address r.first.byte
restored-lengths m b r (Some Both) =
    let t = store_byte m b r.second.address r.second.byte in
    then-lengths (store-lengths m t r.first.address r.first.byte) (store-lengths m b r.second.address r.second.byte)
restored-lengths m b r None = same-lengths b

module _ (w : Whole) where
  -- ---- the four answers

  pub back-invalid : valid_whole w ≡ false → step_back w ≡ backed 1 w
  unfolding step_back back_number
  back-invalid h = rw h

  module _ (h : valid_whole w ≡ true) where
    pub back_none : w.state.held ≡ 0 → step_back w ≡ backed 10 w
    unfolding step_back back_number back_order
    back_none z = rw (h, eq-eqb w.state.held 0 z)

    module _ (n : w.state.held ≡ 0 → ⊥) where
      pub back-unfit : fitting w (newest w) ≡ false → step_back w ≡ backed 11 w
      unfolding step_back back_number back_order
      back-unfit f = rw (h, ne_eqb w.state.held 0 n, f)

      pub back-undone : fitting w (newest w) ≡ true → step_back w ≡ backed 0 (undone w (newest w))
      unfolding step_back back_number back_order
      back-undone f = rw (h, ne_eqb w.state.held 0 n, f)

  -- what holds of each holds of a step-back
  module _ (P : Backed → Type 0) (refused : (n : ℕ) → (n ≡ 0 → ⊥) → P (backed n w))
      (accepted : valid_whole w ≡ true → (w.state.held ≡ 0 → ⊥) → P (backed 0 (undone w (newest w)))) where
    pub every_back : P (step_back w)
    every_back = go (valid_whole w) refl
      where
        held : valid_whole w ≡ true → (w.state.held ≡ 0 → ⊥) → (t : Bool) → fitting w (newest w) ≡ t → P (step_back w)
        held h n true f = subst⁻¹ P (back-undone h n f) (accepted h n)
        held h n false f = subst⁻¹ P (back-unfit h n f) (refused 11 (λ e. omega arith))

        some : valid_whole w ≡ true → (t : Bool) → eqb w.state.held 0 ≡ t → P (step_back w)
        some h true z = subst⁻¹ P (back_none h (eqb-true w.state.held 0 z)) (refused 10 (λ e. omega arith))
        some h false z = held h (eqb-false w.state.held 0 z) (fitting w (newest w)) refl

        go : (t : Bool) → valid_whole w ≡ t → P (step_back w)
        go true h = some h (eqb w.state.held 0) refl
        go false h = subst⁻¹ P (back-invalid h) (refused 1 (λ e. omega arith))

  -- ---- what is refused changes nothing

  pub back-kept : ((step_back w).number ≡ 0 → ⊥) → (step_back w).whole ≡ w
  back-kept =
      every_back (λ (x : Backed). (x.number ≡ 0 → ⊥) → x.whole ≡ w) (λ n k f. refl) (λ h k f. absurd (f refl))

  -- ---- what is accepted spends a record

  pub back-spends : (step_back w).number ≡ 0 → (step_back w).whole.state.held + 1 ≡ w.state.held
  unfolding undone
  back-spends =
      every_back (λ (x : Backed). x.number ≡ 0 → x.whole.state.held + 1 ≡ w.state.held) (λ n k e. absurd (k e))
      (λ h k e. omega (arith, k))

  -- ---- what every step-back keeps

  -- the journal's bytes
  pub back-journal : (step_back w).whole.journal ≡ w.journal
  unfolding undone
  back-journal = every_back (λ (x : Backed). x.whole.journal ≡ w.journal) (λ n k. refl) (λ h k. refl)

  -- tables
  pub back-map : (step_back w).whole.state.machine.map ≡ w.state.machine.map
  unfolding undone
  back-map = every_back (λ (x : Backed). x.whole.state.machine.map ≡ w.state.machine.map) (λ n k. refl) (λ h k. refl)

  -- eight registers
  pub back-eight-kept : length w.state.machine.registers.value ≡ 8 → length (step_back w).whole.state.machine.registers.value ≡ 8
  unfolding undone newest
  back-eight-kept l =
      every_back (λ (x : Backed). length x.whole.state.machine.registers.value ≡ 8) (λ n k. l)
      (λ h k. record-eight w.journal (slot_before (room w.journal) w.state.next))

  -- validity
  undone-parts : (r : Record) → Parts w → (w.state.held ≡ 0 → ⊥) → Parts (undone w r)
  unfolding undone
  undone-parts r p n =
      let m = w.state.machine in
      let d = room w.journal in
      let b = restored m.map w.bytes r (used_by r.kind) in
      let e = restored-lengths m.map w.bytes r (used_by r.kind) in
      let z : 0 < d = omega (arith, n, p.held) in
      record {
        tables = machine-laws.valid_same (with m r) m b.dev w.bytes.dev refl e.dev ∙ p.tables;
        held = omega (arith, p.held);
        next = omega (arith, before-lt d w.state.next z);
      }

  pub back-valid : valid_whole w ≡ true → valid_whole (step_back w).whole ≡ true
  back-valid h =
      every_back (λ (x : Backed). valid_whole x.whole ≡ true) (λ n k. h)
      (λ v k. together (undone w (newest w)) (undone-parts (newest w) (parts w h) k))

-- ---- forget

pub forget-refused : (s : State) (dev journal : List ℕ) → (forget_number s dev journal ≡ 0 → ⊥) → forgotten s dev journal ≡ s
unfolding forget_number forgotten
forget-refused s dev journal = go (valid s dev journal)
  where
    go : (t : Bool) → (◌≡◌ {A = ℕ} (cond (not t) 1 0) 0 → ⊥) → cond t (emptied s) s ≡ s
    go true h = absurd (h refl)
    go false h = refl
