-- Demand 3 as a C host meets it: each call unpacks what the last one packed, which gives a valid state back, so the calls are the
-- journal's own walk, counted alike, of which the journal's demand speaks. Assumes nothing.
use Prim.Native.Nat.{ℕ}
use mathlib.Core.Path.{◌≡◌, refl, sym, ap, ◌∙◌, subst⁻¹}
use mathlib.Core.Bool.{Bool, true, false}
use mathlib.Core.List.{List, [], ◌∷◌}
use lib.Dec.{eqb}
use native.Mathlib.Omega.{arith}
use borrow.Author.Tests.{eqb-false, ne_eqb}
use Rattle.base.specs.Told.{Told}
use Rattle.map.proofs.KeptLaws.{Eight}
use Rattle.machine.specs.declared.StepAnswer.{StepAnswer}
use Rattle.journal.specs.States.{Whole, whole, valid_whole}
use Rattle.journal.specs.declared.State.{State}
use Rattle.journal.specs.Step.{is_accepted, step}
use Rattle.journal.specs.Back.{step_back}
use Rattle.journal.specs.Demand as walks
use Rattle.journal.specs.Demand.{Move, Step, Back, after_move, walk}
use Rattle.journal.proofs.Demand.{demand}
use Rattle.journal.proofs.StepLaws.{every-answer, step-answer, step_kept, step_map, step-eight-kept, step-valid}
use Rattle.journal.proofs.BackLaws.{back-kept, back-map, back-eight-kept, back-valid}
use Rattle.journal.proofs.WalkLaws.{after-step, after-back, walk_none, walk_more, steps-none, steps-step, steps_back, backs-none, backs-step, backs-back}
use Rattle.block.specs.Block.{is_block, packed, unpacked}
use Rattle.block.proofs.Laws.{Shaped, packed-block, valid-back, pack-unpack, unpacked-shaped}
use Rattle.numbers.specs.Answers.{step_code}
use Rattle.seamkettle.specs.Calls.{Seen, seen, shown, stepping, stepping_back}
use Rattle.seamkettle.specs.Demand.{call, calls, accepts, steps, backs, machine_of, held_of, Starts, Demand, DemandFromC}

-- the host's block is that of a valid state, with eight registers and tables of eight entries, and its other bytes are those beside it
record Holds (v : Seen) (w : Whole) : Type 0 where
  shaped : Shaped w.state
  valid : valid_whole w ≡ true
  block : v.block ≡ packed w.state
  bytes : v.bytes ≡ w.bytes
  journal : v.journal ≡ w.journal

-- the number that a move answers
abbrev move_number : Whole → Move → ℕ
move_number w Step = step_code (step w).answer
move_number w Back = (step_back w).number

-- that of a step says whether it is accepted
step-accepts : (w : Whole) → accepts Step (step_code (step w).answer) ≡ is_accepted (step w).answer
unfolding accepts
step-accepts w =
    every-answer w (λ (a : Told StepAnswer) (t : Bool). accepts Step (step_code a) ≡ t) refl refl refl
    (λ n l h. rw (ne_eqb n 0 (λ e. omega arith), ne_eqb n 256 (λ e. omega arith)))

module _ {v : Seen} {w : Whole} (h : Holds v w) where
  unpacks : unpacked v.block ≡ w.state
  unpacks = ap unpacked h.block ∙ valid-back w.state w.bytes.dev w.journal h.shaped h.valid

  same-machine : machine_of v ≡ w.state.machine
  same-machine = ap (λ (s : State). s.machine) unpacks

  same-held : held_of v ≡ w.state.held
  same-held = ap (λ (s : State). s.held) unpacks

  block-again : is_block v.block ≡ true
  block-again = ap is_block h.block ∙ packed-block w.state h.shaped

  -- ---- one call is one move

  called : (m : Move) → call v m ≡ shown (move_number w m) (after_move w m)
  unfolding call stepping stepping_back
  called Step = rw (block-again, unpacks, h.bytes, h.journal, after-step w)
  called Back = rw (block-again, unpacks, h.bytes, h.journal, after-back w)

  -- which leaves a valid state
  after-shaped : (m : Move) → Shaped (after_move w m).state
  after-shaped Step =
      rw (after-step w)
      (record { registers = step-eight-kept w h.shaped.registers; tables = subst⁻¹ Eight (step_map w) h.shaped.tables })
  after-shaped Back =
      rw (after-back w)
      (record { registers = back-eight-kept w h.shaped.registers; tables = subst⁻¹ Eight (back-map w) h.shaped.tables })

  after-valid : (m : Move) → valid_whole (after_move w m) ≡ true
  after-valid Step = rw (after-step w) (step-valid w h.shaped.registers h.valid)
  after-valid Back = rw (after-back w) (back-valid w h.valid)

  holds_after : (m : Move) → Holds (call v m) (after_move w m)
  holds_after m = record {
    shaped = after-shaped m;
    valid = after-valid m;
    block = ap (λ (x : Seen). x.block) (called m);
    bytes = ap (λ (x : Seen). x.bytes) (called m);
    journal = ap (λ (x : Seen). x.journal) (called m);
  }

  -- ---- by its number it is accepted as the move is

  called-number : (m : Move) → (call v m).number ≡ move_number w m
  called-number m = ap (λ (x : Seen). x.number) (called m)

  step_counts : accepts Step (call v Step).number ≡ is_accepted (step w).answer
  step_counts = ap (accepts Step) (called-number Step) ∙ step-accepts w

  back-counts : accepts Back (call v Back).number ≡ eqb (step_back w).number 0
  unfolding accepts
  back-counts = ap (accepts Back) (called-number Back)

  -- a move that changes nothing changes no byte
  kept-called : (m : Move) → after_move w m ≡ w → call v m ≡ seen (call v m).number v.block v.bytes v.journal
  kept-called m e = called m ∙ ap (shown (move_number w m)) e ∙ go (call v m).number (called-number m)
    where
      go : (n : ℕ) → n ≡ move_number w m → shown (move_number w m) w ≡ seen n v.block v.bytes v.journal
      go n f = rw (f, h.block, h.bytes, h.journal)

  -- and one that is not accepted changes nothing
  unaccepted : (m : Move) → accepts m (call v m).number ≡ false → call v m ≡ seen (call v m).number v.block v.bytes v.journal
  unaccepted Step e = kept-called Step (after-step w ∙ step_kept w (sym step_counts ∙ e))
  unaccepted Back e = kept-called Back (after-back w ∙ back-kept w (eqb-false (step_back w).number 0 (sym back-counts ∙ e)))

-- ---- the calls are the walk

calls-walk : (moves : List Move) {v : Seen} {w : Whole} → Holds v w → Holds (calls v moves) (walk w moves)
unfolding calls
calls-walk [] {v} {w} h = subst⁻¹ (Holds v) (walk_none w) h
calls-walk (m ∷ rest) {v} {w} h = subst⁻¹ (Holds (calls (call v m) rest)) (walk_more w m rest) (calls-walk rest (holds_after h m))

steps-same : (moves : List Move) {v : Seen} {w : Whole} → Holds v w → steps v moves ≡ walks.steps w moves
unfolding steps
steps-same [] {v} {w} h = sym (steps-none w)
steps-same (Step ∷ rest) {v} {w} h =
    rw (step_counts h, steps-same rest (holds_after h Step)) (sym (steps-step w rest))
steps-same (Back ∷ rest) {v} {w} h = steps-same rest (holds_after h Back) ∙ sym (steps_back w rest)

backs-same : (moves : List Move) {v : Seen} {w : Whole} → Holds v w → backs v moves ≡ walks.backs w moves
unfolding backs
backs-same [] {v} {w} h = sym (backs-none w)
backs-same (Step ∷ rest) {v} {w} h = backs-same rest (holds_after h Step) ∙ sym (backs-step w rest)
backs-same (Back ∷ rest) {v} {w} h =
    rw (back-counts h, backs-same rest (holds_after h Back)) (sym (backs-back w rest))

-- ---- the demand

-- what the journal's demand says of the walk
module _ {v : Seen} {w : Whole} (h : Holds v w) (moves : List Move) (d : walks.Demand w moves (walk w moves)) where
  met : Demand v moves (calls v moves)
  met =
      let u = calls v moves in
      let x = walk w moves in
      let k : Holds u x = calls-walk moves h in
      record {
        no_more = rw (steps-same moves h, backs-same moves h) d.no_more;
        reached = rw (steps-same moves h, backs-same moves h, same-machine h, same-machine k, k.bytes, h.bytes) d.reached;
        block = block-again k;
        answers = rw (called-number k Step, same-machine k, k.bytes) (ap step_code (step-answer x k.valid));
        adds = λ e.
            rw (same-held (holds_after k Step), same-held k, after-step x, h.journal)
            (d.adds (sym (step_counts k) ∙ e));
        spends = λ e. rw (same-held (holds_after k Back), same-held k, after-back x) (d.spends (sym (called-number k Back) ∙ e));
        refused = λ e. called-number k Back ∙ d.refused (sym (same-held k) ∙ e);
        accepted = λ e. called-number k Back ∙ d.accepted (λ z. e (same-held k ∙ z));
        kept = unaccepted k;
      }

-- the block is that of the state in it
starts : (v : Seen) → Starts v → Holds v (whole (unpacked v.block) v.bytes v.journal)
starts v a = record {
  shaped = unpacked-shaped v.block;
  valid = a.valid;
  block = sym (pack-unpack v.block a.block a.bytes);
  bytes = refl;
  journal = refl;
}

pub demand-from-c : DemandFromC
demand-from-c v a moves =
    let w = whole (unpacked v.block) v.bytes v.journal in
    met (starts v a) moves (demand w (record { eight = (unpacked-shaped v.block).registers; valid = a.valid; empty = a.empty }) moves)
