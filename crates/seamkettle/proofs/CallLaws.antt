-- The entries' one shape: 31 and all as it was, or the entry of what the block holds, packed. Assumes nothing.
use Prim.Native.Nat.{ℕ}
use mathlib.Core.Path.{◌≡◌, refl, ap, ◌∙◌}
use mathlib.Core.Bool.{Bool, true, false}
use mathlib.Core.List.{List}
use Rattle.base.specs.Told.{Told}
use Rattle.memory.specs.Bytes.{Lent}
use Rattle.machine.specs.declared.StepAnswer.{StepAnswer}
use Rattle.journal.specs.States.{whole}
use Rattle.journal.specs.declared.State.{State}
use Rattle.journal.specs.Step.{Result, result_of, step}
use Rattle.journal.specs.Run.{Ran, ran, run}
use Rattle.journal.specs.Back.{Backed, backed, step_back}
use Rattle.block.specs.Block.{is_block, packed, unpacked}
use Rattle.numbers.specs.Answers.{coded, step_code}
use Rattle.seamkettle.specs.Calls.{seen, shown, stepping, running, stepping_back, number_in, block_after}

-- there is a block, or there is none
pub by_block : {P : Type 0} (block : List ℕ) → (is_block block ≡ false → P) → (is_block block ≡ true → P) → P
by_block {P} block none some = go (is_block block) refl
  where
    go : (t : Bool) → is_block block ≡ t → P
    go true e = some e
    go false e = none e

-- ---- no block

module _ (block : List ℕ) (e : is_block block ≡ false) where
  module _ (b : Lent) (j : List ℕ) {n : ℕ} (m : n ≡ 31) where
    pub stepping-none : seen n block b j ≡ stepping block b j
    unfolding stepping
    stepping-none = rw (e, m)

    pub running_none : (steps : ℕ) → seen n block b j ≡ running steps block b j
    unfolding running
    running_none steps = rw (e, m)

    pub stepping-back-none : seen n block b j ≡ stepping_back block b j
    unfolding stepping_back
    stepping-back-none = rw (e, m)

  pub number-none : {n : ℕ} → n ≡ 31 → (entry : State → ℕ) → n ≡ number_in block entry
  unfolding number_in
  number-none m entry = m ∙ rw e

  pub block_none : {left : List ℕ} → left ≡ block → (entry : State → State) → left ≡ block_after block entry
  unfolding block_after
  block_none m entry = m ∙ rw e

-- ---- a block, whose state is s, and t is the state that is packed

module _ (block : List ℕ) (e : is_block block ≡ true) {s : State} (u : s ≡ unpacked block) where
  module _ {t : State} {left : List ℕ} (p : left ≡ packed t) where
    module _ (b : Lent) (j : List ℕ) {c : Lent} {k : List ℕ} {n : ℕ} where
      pub stepping-some : {a : Told StepAnswer} → result_of a (whole t c k) ≡ step (whole s b j) → n ≡ step_code a
          → seen n left c k ≡ stepping block b j
      unfolding stepping
      stepping-some h m = rw (e, m, p, ← u) (ap (λ (x : Result). shown (step_code x.answer) x.whole) h)

      pub running-some : (steps : ℕ) {a : Told StepAnswer} {i : ℕ} → ran a i (whole t c k) ≡ run steps (whole s b j)
          → n ≡ coded (step_code a) i → seen n left c k ≡ running steps block b j
      unfolding running
      running-some steps h m = rw (e, m, p, ← u) (ap (λ (x : Ran). shown (coded (step_code x.answer) x.count) x.whole) h)

      pub stepping-back-some : {a : ℕ} → backed a (whole t c k) ≡ step_back (whole s b j) → n ≡ a
          → seen n left c k ≡ stepping_back block b j
      unfolding stepping_back
      stepping-back-some h m = rw (e, m, p, ← u) (ap (λ (x : Backed). shown x.number x.whole) h)

-- ---- the same of an entry that is told by what it does with the block's state alone

module _ (block : List ℕ) (e : is_block block ≡ true) where
  pub block-some : {t : State} {left : List ℕ} → left ≡ packed t → (entry : State → State) → t ≡ entry (unpacked block) → left ≡ block_after block entry
  unfolding block_after
  block-some p entry h = p ∙ rw e (ap packed h)

  pub number-some : {n : ℕ} (entry : State → ℕ) → n ≡ entry (unpacked block) → n ≡ number_in block entry
  unfolding number_in
  number-some entry h = rw e h
