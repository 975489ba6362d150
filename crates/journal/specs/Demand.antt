-- Demand 3, to be held beside the mission's words: from a valid state and an empty journal, step and step back in any order, the
-- host changing nothing between: registers, memory and device bytes are always those that demand 2's step alone reaches from
-- the start, in as many accepted steps as were not taken back. Each accepted step adds a record, up to the journal's room;
-- each step-back spends one, and is refused exactly when none is held. Proved in proofs/Demand.antt.
use Rattle.std.specs.Prelude.{ℕ, zero, suc, ◌+◌, ◌-◌, ◌≤◌, min, ◌≡◌, true, false, List, [], ◌∷◌, eqb, length}
use Rattle.base.specs.Choice.{cond}
use Rattle.machine.specs.Step as machine
use Rattle.machine.specs.declared.Machine.{Machine}
use Rattle.memory.specs.Bytes.{Lent}
use Rattle.records.specs.Slots.{room}
use Rattle.journal.specs.States.{Whole, valid_whole}
use Rattle.journal.specs.Step.{is_accepted, step}
use Rattle.journal.specs.Back.{step_back}

-- ---- step and step back in any order

pub data Move : Type 0 where
  Step : Move
  Back : Move

-- all there is after a move, accepted or refused
unfoldable pub after_move : Whole → Move → Whole
after_move w Step = (step w).whole
after_move w Back = (step_back w).whole

-- and after a list of moves, from the first one on
unfoldable pub walk : Whole → List Move → Whole
walk w [] = w
walk w (m ∷ rest) = walk (after_move w m) rest

-- the accepted steps of a walk
unfoldable pub steps : Whole → List Move → ℕ
steps w [] = 0
steps w (Step ∷ rest) = cond (is_accepted (step w).answer) 1 0 + steps (after_move w Step) rest
steps w (Back ∷ rest) = steps (after_move w Back) rest

-- and those that were taken back
unfoldable pub backs : Whole → List Move → ℕ
backs w [] = 0
backs w (Step ∷ rest) = backs (after_move w Step) rest
backs w (Back ∷ rest) = cond (eqb (step_back w).number 0) 1 0 + backs (after_move w Back) rest

-- ---- demand 2's step alone

-- registers (with mode and tables), memory and device bytes; nowhere after a step that is not accepted
pub data Place : Type 0 where
  at : Machine → Lent → Place
  nowhere : Place

unfoldable pub step_on : Place → Place
step_on (at m b) =
    let a = machine.step m b in
    cond (is_accepted a.answer) (at a.machine a.bytes) nowhere
step_on nowhere = nowhere

-- where n accepted steps lead
unfoldable pub alone : ℕ → Machine → Lent → Place
alone zero m b = at m b
alone (suc n) m b = step_on (alone n m b)

-- ---- the demand

-- a valid state (its registers are eight) and an empty journal
pub record Starts (w : Whole) : Type 0 where
  pub eight : length w.state.machine.registers.value ≡ 8
  pub valid : valid_whole w ≡ true
  pub empty : w.state.held ≡ 0

-- of the walk w .. v; every part of a walk from its start is a walk, so this says it of each move
pub record Demand (w : Whole) (moves : List Move) (v : Whole) : Type 0 where
  -- registers, memory and device bytes are those that demand 2's step alone reaches, in as many accepted steps as were not taken back
  pub no_more : backs w moves ≤ steps w moves
  pub reached : alone (steps w moves - backs w moves) w.state.machine w.bytes ≡ at v.state.machine v.bytes
  -- each accepted step adds a record, up to the journal's room
  pub adds : is_accepted (step v).answer ≡ true → (step v).whole.state.held ≡ min (v.state.held + 1) (room w.journal)
  -- each step-back spends one
  pub spends : (step_back v).number ≡ 0 → (step_back v).whole.state.held + 1 ≡ v.state.held
  -- and is refused exactly when none is held
  pub refused : v.state.held ≡ 0 → (step_back v).number ≡ 10
  pub accepted : (v.state.held ≡ 0 → ⊥) → (step_back v).number ≡ 0
  -- what is not accepted changes nothing, so the records held are those that were added and not yet spent
  pub step_kept : is_accepted (step v).answer ≡ false → (step v).whole ≡ v
  pub back-kept : ((step_back v).number ≡ 0 → ⊥) → (step_back v).whole ≡ v

abbrev pub Demand3 : Type 0
Demand3 = (w : Whole) → Starts w → (moves : List Move) → Demand w moves (walk w moves)
