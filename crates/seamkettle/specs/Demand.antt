-- Demand 3 as a C host meets it, to be held beside the mission's words: from the block of a valid state and an empty journal, calls
-- of kettle_step and kettle_step_back in any order, the host changing nothing between: the registers in the block, memory and device bytes
-- are always those that demand 2's step alone reaches from the start, in as many accepted steps as were not taken back. Each
-- accepted step adds a record, up to the journal's room; each step-back spends one, and is refused exactly when none is held.
-- It speaks of what the host sees alone: the block, the lent bytes, and the number of each call. Proved in proofs/Demand.antt.
use Rattle.std.specs.Prelude.{ℕ, ◌+◌, ◌-◌, ◌≤◌, min, ◌≡◌, Bool, true, false, ◌||◌, List, [], ◌∷◌, eqb}
use Rattle.base.specs.Choice.{cond}
use Rattle.wordbytes.specs.Words.{are_bytes}
use Rattle.machine.specs.Step as machine
use Rattle.machine.specs.declared.Machine.{Machine}
use Rattle.records.specs.Slots.{room}
use Rattle.journal.specs.States as journal
use Rattle.journal.specs.Demand.{Move, Step, Back, at, alone}
use Rattle.block.specs.Block.{is_block, unpacked}
use Rattle.numbers.specs.Answers.{step_code}
use Rattle.seamkettle.specs.Calls.{Seen, seen, stepping, stepping_back}

-- ---- step and step back in any order

-- one call, on what the last one left
unfoldable pub call : Seen → Move → Seen
call v Step = stepping v.block v.bytes v.journal
call v Back = stepping_back v.block v.bytes v.journal

-- and a list of them, from the first one on
unfoldable pub calls : Seen → List Move → Seen
calls v [] = v
calls v (m ∷ rest) = calls (call v m) rest

-- ---- what the host counts, by the numbers that the calls answer

-- a step is accepted where that is 0 (Continue) or 256 (Debug), a step-back where it is 0
unfoldable pub accepts : Move → ℕ → Bool
accepts Step n = eqb n 0 || eqb n 256
accepts Back n = eqb n 0

-- the accepted steps
unfoldable pub steps : Seen → List Move → ℕ
steps v [] = 0
steps v (Step ∷ rest) = cond (accepts Step (call v Step).number) 1 0 + steps (call v Step) rest
steps v (Back ∷ rest) = steps (call v Back) rest

-- and those that were taken back
unfoldable pub backs : Seen → List Move → ℕ
backs v [] = 0
backs v (Step ∷ rest) = backs (call v Step) rest
backs v (Back ∷ rest) = cond (accepts Back (call v Back).number) 1 0 + backs (call v Back) rest

-- ---- what the host's bytes hold

-- registers (with mode and tables), in the block
abbrev pub machine_of : Seen → Machine
machine_of v = (unpacked v.block).machine

-- how many records are held, in the block
abbrev pub held_of : Seen → ℕ
held_of v = (unpacked v.block).held

-- ---- the demand

-- a block, of a valid state and an empty journal
pub record Starts (v : Seen) : Type 0 where
  pub bytes : are_bytes v.block ≡ true
  pub block : is_block v.block ≡ true
  pub valid : journal.valid (unpacked v.block) v.bytes.dev v.journal ≡ true
  pub empty : held_of v ≡ 0

-- of the calls v .. u; every part of them from the start is a list of calls, so this says it of each call
pub record Demand (v : Seen) (moves : List Move) (u : Seen) : Type 0 where
  -- registers, memory and device bytes are those that demand 2's step alone reaches, in as many accepted steps as were not taken back
  pub no_more : backs v moves ≤ steps v moves
  pub reached : alone (steps v moves - backs v moves) (machine_of v) v.bytes ≡ at (machine_of u) u.bytes
  -- the block is one again, and a step's number says what demand 2's step answers there
  pub block : is_block u.block ≡ true
  pub answers : (call u Step).number ≡ step_code (machine.step (machine_of u) u.bytes).answer
  -- each accepted step adds a record, up to the journal's room
  pub adds : accepts Step (call u Step).number ≡ true → held_of (call u Step) ≡ min (held_of u + 1) (room v.journal)
  -- each step-back spends one
  pub spends : (call u Back).number ≡ 0 → held_of (call u Back) + 1 ≡ held_of u
  -- and is refused exactly when none is held
  pub refused : held_of u ≡ 0 → (call u Back).number ≡ 10
  pub accepted : (held_of u ≡ 0 → ⊥) → (call u Back).number ≡ 0
  -- what is not accepted changes no byte: block, memory, devices and journal are as they were
  pub kept : (m : Move) → accepts m (call u m).number ≡ false → call u m ≡ seen (call u m).number u.block u.bytes u.journal

abbrev pub DemandFromC : Type 0
DemandFromC = (v : Seen) → Starts v → (moves : List Move) → Demand v moves (calls v moves)
