-- A walk and what it counts, move by move, for the crates above. Assumes nothing.
use Prim.Native.Nat.{◌+◌}
use mathlib.Core.Path.{◌≡◌, refl}
use mathlib.Core.List.{List, [], ◌∷◌}
use lib.Dec.{eqb}
use Rattle.base.specs.Choice.{cond}
use Rattle.journal.specs.States.{Whole}
use Rattle.journal.specs.Step.{is_accepted, step}
use Rattle.journal.specs.Back.{step_back}
use Rattle.journal.specs.Demand.{Move, Step, Back, after_move, walk, steps, backs}

module _ (w : Whole) where
  pub after-step : after_move w Step ≡ (step w).whole
  unfolding after_move
  after-step = refl

  pub after-back : after_move w Back ≡ (step_back w).whole
  unfolding after_move
  after-back = refl

  pub walk_none : walk w [] ≡ w
  unfolding walk
  walk_none = refl

  pub walk_more : (m : Move) (rest : List Move) → walk w (m ∷ rest) ≡ walk (after_move w m) rest
  unfolding walk
  walk_more m rest = refl

  -- ---- what it counts

  pub steps-none : steps w [] ≡ 0
  unfolding steps
  steps-none = refl

  pub backs-none : backs w [] ≡ 0
  unfolding backs
  backs-none = refl

  module _ (rest : List Move) where
    pub steps-step : steps w (Step ∷ rest) ≡ cond (is_accepted (step w).answer) 1 0 + steps (after_move w Step) rest
    unfolding steps
    steps-step = refl

    pub steps_back : steps w (Back ∷ rest) ≡ steps (after_move w Back) rest
    unfolding steps
    steps_back = refl

    pub backs-step : backs w (Step ∷ rest) ≡ backs (after_move w Step) rest
    unfolding backs
    backs-step = refl

    pub backs-back : backs w (Back ∷ rest) ≡ cond (eqb (step_back w).number 0) 1 0 + backs (after_move w Back) rest
    unfolding backs
    backs-back = refl
