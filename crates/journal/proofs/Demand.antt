-- Demand 3: the records that are held lead back, one after the other, through the states that the steps came from, since a
-- step's record undoes it and fills none of the slots that are still held. Assumes nothing.
use Prim.Native.Nat.{ℕ, zero, suc, ◌+◌, ◌-◌, ◌<◌, ◌≤◌, min}
use mathlib.Core.Path.{◌≡◌, refl, ap, ◌∙◌, subst⁻¹}
use mathlib.Core.Logic.{inl}
use mathlib.Core.Bool.{Bool, true, false}
use mathlib.Core.List.{List, [], ◌∷◌}
use lib.Dec.{eqb}
use lib.ListN.{length}
use borrow.Author.Tests.{eqb-true, eqb-false}
use native.Mathlib.Omega.{arith}
use Rattle.base.specs.Choice.{cond}
use Rattle.machine.specs.Step as machine
use Rattle.records.specs.Slots.{room, record_at, filled, slot_after, slot_before}
use Rattle.records.specs.declared.Record.{Record}
use Rattle.records.proofs.Laws.{filled-own, filled-other}
use Rattle.records.proofs.Ring.{Behind, behind-before, behind-other, before-after, before-lt}
use Rattle.journal.specs.States.{Whole, valid_whole}
use Rattle.journal.specs.Step.{is_accepted, moved, step}
use Rattle.journal.specs.Back.{Backed, backed, newest, undone, step_back}
use Rattle.journal.specs.Demand.{Move, Step, Back, after_move, walk, steps, backs, Place, at, step_on, alone, Starts, Demand, Demand3}
use Rattle.journal.proofs.StateLaws.{parts, next-slot}
use Rattle.journal.proofs.StepLaws.{own, own_record, with_record, accepted-valid, step_kept, own-accepted, own-eight, accepted-step, filled-room, step_room, step-eight-kept, step-valid}
use Rattle.journal.proofs.UndoLaws.{Point, point, Undoes, record-undoes}
use Rattle.journal.proofs.BackLaws.{fitting, back_none, back-undone, back-kept, back-spends, back-journal, back-eight-kept, back-valid}

-- where a walk stands
abbrev stands : Whole → Point
stands w = point w.state.machine w.bytes

-- ---- the records that are held

-- in the d slots of the journal j, each of the k records before slot p undoes a step: they lead from t back through the points
-- h, the newest first
Holds : List ℕ → ℕ → ℕ → ℕ → Point → List Point → Type 0
Holds j d p zero t h = Unit {0}
Holds j d p (suc k) t [] = ⊥
Holds j d p (suc k) t (u ∷ h) = Undoes (record_at j (slot_before d p)) t u × Holds j d (slot_before d p) k u h

-- fewer of them
holds-less : (j : List ℕ) (d p l k : ℕ) (t : Point) (h : List Point) → l ≤ k → Holds j d p k t h → Holds j d p l t h
unfolding Holds
holds-less j d p zero k t h le H = tt
holds-less j d p (suc l) zero t h le H = absurd (omega arith)
holds-less j d p (suc l) (suc k) t [] le H = H
holds-less j d p (suc l) (suc k) t (u ∷ h) le H = (H.0, holds-less j d (slot_before d p) l k u h (omega arith) H.1)

module _ (j : List ℕ) (x : ℕ) (r : Record) (e : length r.registers ≡ 8) (hx : x < room j) where
  -- a slot that is none of theirs is filled: p lies i slots before x
  holds-filled : (k p i : ℕ) (t : Point) (h : List Point) → p < room j → i + k < room j → Behind (room j) x i p
      → Holds j (room j) p k t h → Holds (filled j x r) (room j) p k t h
  unfolding Holds
  holds-filled zero p i t h hp hi b H = tt
  holds-filled (suc k) p i t [] hp hi b H = H
  holds-filled (suc k) p i t (u ∷ h) hp hi b H =
      let z : 0 < room j = omega arith in
      let lt : suc i < room j = omega arith in
      let q = slot_before (room j) p in
      let c = behind-before (room j) x i p hx hp lt b in
      let s = filled-other j x r e hx q (behind-other (room j) x i q lt c) in (
        subst⁻¹ (λ (y : Record). Undoes y t u) s H.0,
        holds-filled k q (suc i) u h (before-lt (room j) p z) (omega arith) c H.1,
      )

  -- the record of a step is the newest one, and of those before it at most d - 1 are held
  holds-newest : (k : ℕ) (s t : Point) (h : List Point) → Undoes r t s → Holds j (room j) x k s h
      → Holds (filled j x r) (room j) (slot_after (room j) x) (min (k + 1) (room j)) t (s ∷ h)
  unfolding Holds
  holds-newest k s t h v H =
      let l = min k (room j - 1) in
      let m : min (k + 1) (room j) ≡ suc (min k (room j - 1)) = omega arith in
      let lt : 0 + min k (room j - 1) < room j = omega arith in
      let le : min k (room j - 1) ≤ k = omega arith in
      let here : x + 0 ≡ x = omega arith in
      rw (m, before-after (room j) x hx) (
        subst⁻¹ (λ (y : Record). Undoes y t s) (filled-own j x r e hx) v,
        holds-filled l x 0 s h hx lt (inl here) (holds-less j (room j) x l k s h le H),
      )

-- ---- the accepted steps that were not taken back

-- they lead from s through the points h, the newest first, to t
Leads : Point → Point → Type 0
Leads u t =
    let a = machine.step u.machine u.bytes in
    (is_accepted a.answer ≡ true) × (point a.machine a.bytes ≡ t)

Chain : Point → List Point → Point → Type 0
Chain s [] t = s ≡ t
Chain s (u ∷ h) t = Leads u t × Chain s h u

abbrev placed : Point → Place
placed t = at t.machine t.bytes

leads-onward : (u t : Point) → Leads u t → step_on (placed u) ≡ placed t
unfolding Leads step_on
leads-onward u t l = rw l.0 (ap placed l.1)

chain-alone : (s : Point) (h : List Point) (t : Point) → Chain s h t → alone (length h) s.machine s.bytes ≡ placed t
unfolding Chain alone
chain-alone s [] t c = ap placed c
chain-alone s (u ∷ h) t c = rw (chain-alone s h u c.1) (leads-onward u t c.0)

-- ---- what holds before and after each move

abbrev Held : Whole → List Point → Type 0
Held w h = Holds w.journal (room w.journal) w.state.next w.state.held (stands w) h

-- of a walk that began at s with room for d records, and is at w
record Inv (s : Point) (d : ℕ) (w : Whole) (h : List Point) : Type 0 where
  size : room w.journal ≡ d
  eight : length w.state.machine.registers.value ≡ 8
  valid : valid_whole w ≡ true
  chain : Chain s h (stands w)
  holds : Held w h

module _ (s : Point) (d : ℕ) (w : Whole) (h : List Point) (v : Inv s d w h) where
  -- ---- an accepted step adds a record

  step-leads : is_accepted (step w).answer ≡ true → Leads (stands w) (stands (step w).whole)
  unfolding Leads
  step-leads e = (
    own-accepted w e,
    accepted-step w e (λ (x : Whole). point (own w).machine (own w).bytes ≡ stands x) (λ z. refl) (λ n. refl),
  )

  -- without room nothing is held
  held_none : room w.journal ≡ 0 → Held (moved w (own w)) (stands w ∷ h)
  unfolding Holds
  held_none z =
      let e : w.state.held ≡ 0 = omega (arith, z, (parts w v.valid).held) in
      rw e tt

  held-some : 0 < room w.journal → Held (with_record w) (stands w ∷ h)
  held-some n =
      let j = w.journal in
      let x = w.state.next in
      let e = own-eight w v.eight in
      let t = point (own w).machine (own w).bytes in
      rw (filled-room w v.eight v.valid n)
      (holds-newest j x (own_record w) e (next-slot w v.valid n) w.state.held (stands w) t h (record-undoes w v.valid) v.holds)

  inv-step : is_accepted (step w).answer ≡ true → Inv s d (step w).whole (stands w ∷ h)
  unfolding Chain
  inv-step e = record {
    size = step_room w v.eight ∙ v.size;
    eight = step-eight-kept w v.eight;
    valid = step-valid w v.eight v.valid;
    chain = (step-leads e, v.chain);
    holds = accepted-step w e (λ (x : Whole). Held x (stands w ∷ h)) held_none held-some;
  }

  -- ---- a step-back spends one

  record Backs : Type 0 where
    past : List Point
    longer : length h ≡ suc (length past)
    fits : fitting w (newest w) ≡ true
    inv : Inv s d (step_back w).whole past

  back-stands : (u : Point) → Undoes (newest w) (stands w) u → stands (undone w (newest w)) ≡ u
  unfolding undone
  back-stands u k = rw (k.machine, k.bytes)

  -- one less
  back-held : (u : Point) (past : List Point) → Undoes (newest w) (stands w) u
      → Holds w.journal (room w.journal) (slot_before (room w.journal) w.state.next) (w.state.held - 1) u past
      → Held (undone w (newest w)) past
  unfolding undone
  back-held u past k H =
      let d = room w.journal in
      let p = slot_before d w.state.next in
      subst⁻¹ (λ (t : Point). Holds w.journal d p (w.state.held - 1) t past) (back-stands u k) H

  inv-back : (w.state.held ≡ 0 → ⊥) → Backs
  unfolding Holds Chain newest
  inv-back n = go h refl v.chain (rw e at v.holds)
    where
      e : w.state.held ≡ suc (w.state.held - 1)
      e = omega (arith, n)

      go : (g : List Point) → length h ≡ length g → Chain s g (stands w)
          → Holds w.journal (room w.journal) w.state.next (suc (w.state.held - 1)) (stands w) g → Backs
      go [] l c H = absurd H
      go (u ∷ past) l c H =
          let q : step_back w ≡ backed 0 (undone w (newest w)) = back-undone w v.valid n H.0.fitting in
          let k : stands (undone w (newest w)) ≡ u = back-stands u H.0 in
          record {
            past = past;
            longer = l;
            fits = H.0.fitting;
            inv = record {
              size = ap room (back-journal w) ∙ v.size;
              eight = back-eight-kept w v.eight;
              valid = back-valid w v.valid;
              chain = subst⁻¹ (λ (x : Backed). Chain s past (stands x.whole)) q (subst⁻¹ (Chain s past) k c.1);
              holds = subst⁻¹ (λ (x : Backed). Held x.whole past) q (back-held u past H.0 H.1);
            };
          }

  -- ---- a move, refused or accepted

  record Moved (x : Whole) (more fewer : ℕ) : Type 0 where
    past : List Point
    inv : Inv s d x past
    count : length past + fewer ≡ length h + more

  step-moves : Moved (step w).whole (cond (is_accepted (step w).answer) 1 0) 0
  step-moves = go (is_accepted (step w).answer) refl
    where
      go : (t : Bool) → is_accepted (step w).answer ≡ t → Moved (step w).whole (cond t 1 0) 0
      go true e = record { past = stands w ∷ h; inv = inv-step e; count = omega arith }
      go false e = record { past = h; inv = subst⁻¹ (λ (x : Whole). Inv s d x h) (step_kept w e) v; count = refl }

  back-moves : Moved (step_back w).whole 0 (cond (eqb (step_back w).number 0) 1 0)
  back-moves = go (eqb w.state.held 0) refl
    where
      done : (n : w.state.held ≡ 0 → ⊥) → Backs → Moved (step_back w).whole 0 (cond (eqb (step_back w).number 0) 1 0)
      done n k =
          let z : (step_back w).number ≡ 0 = ap (λ (x : Backed). x.number) (back-undone w v.valid n k.fits) in
          record { past = k.past; inv = k.inv; count = rw z (omega (arith, k.longer)) }

      go : (t : Bool) → eqb w.state.held 0 ≡ t → Moved (step_back w).whole 0 (cond (eqb (step_back w).number 0) 1 0)
      go true e =
          let q : step_back w ≡ backed 10 w = back_none w v.valid (eqb-true w.state.held 0 e) in
          subst⁻¹ (λ (x : Backed). Moved x.whole 0 (cond (eqb x.number 0) 1 0)) q (record { past = h; inv = v; count = refl })
      go false e = let n = eqb-false w.state.held 0 e in done n (inv-back n)

-- ---- a walk

record Ends (s : Point) (d n : ℕ) (w : Whole) (moves : List Move) : Type 0 where
  past : List Point
  inv : Inv s d (walk w moves) past
  count : length past + backs w moves ≡ n + steps w moves

walk_ends : (s : Point) (d : ℕ) (moves : List Move) (w : Whole) (h : List Point) → Inv s d w h → Ends s d (length h) w moves
unfolding walk after_move steps backs
walk_ends s d [] w h v = record { past = h; inv = v; count = refl }
walk_ends s d (Step ∷ rest) w h v =
    let k = step-moves s d w h v in
    let e = walk_ends s d rest (step w).whole k.past k.inv in
    record { past = e.past; inv = e.inv; count = omega (arith, k.count, e.count) }
walk_ends s d (Back ∷ rest) w h v =
    let k = back-moves s d w h v in
    let e = walk_ends s d rest (step_back w).whole k.past k.inv in
    record { past = e.past; inv = e.inv; count = omega (arith, k.count, e.count) }

-- ---- the demand

starts : (w : Whole) → Starts w → Inv (stands w) (room w.journal) w []
unfolding Chain Holds
starts w a = record { size = refl; eight = a.eight; valid = a.valid; chain = refl; holds = rw a.empty tt }

-- an accepted step adds a record, up to the room
held_after : (w : Whole) → is_accepted (step w).answer ≡ true
    → (step w).whole.state.held ≡ min (w.state.held + 1) (room w.journal)
held_after w e =
    accepted-step w e (λ (x : Whole). x.state.held ≡ min (w.state.held + 1) (room w.journal))
    (λ z. omega (arith, z, (parts w (accepted-valid w e)).held)) (λ n. refl)

met : (w : Whole) (moves : List Move) → Ends (stands w) (room w.journal) 0 w moves → Demand w moves (walk w moves)
met w moves e =
    let v = walk w moves in
    let i = e.inv in
    let n : steps w moves - backs w moves ≡ length e.past = omega (arith, e.count) in
    let back = inv-back (stands w) (room w.journal) v e.past i in
    record {
      no_more = omega (arith, e.count);
      reached = rw n (chain-alone (stands w) e.past (stands v) i.chain);
      adds = λ a. held_after v a ∙ ap (min (v.state.held + 1)) i.size;
      spends = back-spends v;
      step_kept = step_kept v;
      back-kept = back-kept v;
      refused = λ z. ap (λ (x : Backed). x.number) (back_none v i.valid z);
      accepted = λ k. ap (λ (x : Backed). x.number) (back-undone v i.valid k (back k).fits);
    }

pub demand : Demand3
demand w a moves = met w moves (walk_ends (stands w) (room w.journal) moves w [] (starts w a))
