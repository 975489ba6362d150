-- A refusal leaves the block as found, and all else but what 01 lets a load and a run keep: the state that came out of the block is
-- packed again as it was. Assumes nothing.
use Prim.Native.Nat.{ℕ}
use mathlib.Core.Path.{◌≡◌, refl, ap, ◌∙◌}
use mathlib.Core.Bool.{Bool, true, false, ◌&&◌}
use mathlib.Core.List.{List}
use Rattle.base.specs.Choice.{cond}
use Rattle.wordbytes.specs.Words.{are_bytes, words_in, even}
use Rattle.memory.specs.Bytes.{Lent}
use Rattle.journal.specs.States.{Whole, whole}
use Rattle.journal.specs.declared.State.{State}
use Rattle.journal.specs.Step.{is_accepted, step}
use Rattle.journal.specs.Run.{run}
use Rattle.journal.specs.Back.{step_back, forget_number, forgotten}
use Rattle.journal.proofs.StepLaws.{step_kept}
use Rattle.journal.proofs.BackLaws.{back-kept, forget-refused}
use Rattle.journal.proofs.RunLaws.{run-kept}
use Rattle.host.specs.Host.{set_number, set_state, protect_number, protect_state, register_number, register_state, load_number, begins}
use Rattle.host.proofs.Laws.{set-refused, protect-refused, register-refused, load-refused}
use Rattle.base.proofs.Tests.{and_left}
use Rattle.block.specs.Block.{is_block, packed, unpacked}
use Rattle.block.proofs.Laws.{pack-unpack}
use Rattle.numbers.specs.Answers.{coded, step_code}
use Rattle.seamkettle.specs.Calls.{seen, shown, stepping, running, stepping_back, loaded, loading, block_after}

module _ (block : List ℕ) (a : are_bytes block ≡ true) where
  -- an entry that leaves the state leaves the block
  pub block-kept : (entry : State → State) → entry (unpacked block) ≡ unpacked block → block_after block entry ≡ block
  unfolding block_after
  block-kept entry e = go (is_block block) refl
    where
      go : (t : Bool) → is_block block ≡ t → cond t (packed (entry (unpacked block))) block ≡ block
      go true i = ap packed e ∙ pack-unpack block i a
      go false i = refl

  -- set a register, protect, a device, forget: a number that is not 0
  module _ (dev journal : List ℕ) where
    pub set-left : (number value : ℕ) → (set_number (unpacked block) dev journal number ≡ 0 → ⊥)
        → block_after block (λ s. set_state s dev journal number value) ≡ block
    set-left number value h = block-kept (λ s. set_state s dev journal number value) (set-refused (unpacked block) dev journal number value h)

    pub protect-left : (start len : ℕ) → (protect_number (unpacked block) dev journal start len ≡ 0 → ⊥)
        → block_after block (λ s. protect_state s dev journal start len) ≡ block
    protect-left start len h = block-kept (λ s. protect_state s dev journal start len) (protect-refused (unpacked block) dev journal start len h)

    pub register-left : (start size : ℕ) → (register_number (unpacked block) dev journal start size ≡ 0 → ⊥)
        → block_after block (λ s. register_state s dev journal start size) ≡ block
    register-left start size h = block-kept (λ s. register_state s dev journal start size) (register-refused (unpacked block) dev journal start size h)

    pub forget-left : (forget_number (unpacked block) dev journal ≡ 0 → ⊥) → block_after block (λ s. forgotten s dev journal) ≡ block
    forget-left h = block-kept (λ s. forgotten s dev journal) (forget-refused (unpacked block) dev journal h)

  module _ (b : Lent) (j : List ℕ) where
    abbrev found : Whole
    found = whole (unpacked block) b j

    -- the same of what is shown of it, where there is a block
    kept : (t : Bool) → (t ≡ true → is_block block ≡ true) → (n : ℕ) (w : Whole) → w ≡ found
        → cond t (shown n w) (seen 31 block b j) ≡ seen (cond t n 31) block b j
    kept true i n w e = rw e (ap (λ (x : List ℕ). seen n x b j) (pack-unpack block (i refl) a))
    kept false i n w e = refl

    -- a step that is not accepted, being neither Continue nor Debug
    pub step-refused : is_accepted (step found).answer ≡ false
        → stepping block b j ≡ seen (cond (is_block block) (step_code (step found).answer) 31) block b j
    unfolding stepping
    step-refused h = kept (is_block block) (λ i. i) (step_code (step found).answer) (step found).whole (step_kept found h)

    -- a run that counts no accepted step: it is refused at once, or at Stop, or of no steps
    pub run-unbegun : (n : ℕ) → (run n found).count ≡ 0
        → running n block b j ≡ seen (cond (is_block block) (coded (step_code (run n found).answer) 0) 31) block b j
    unfolding running
    run-unbegun n h = rw h (kept (is_block block) (λ i. i) (coded (step_code (run n found).answer) 0) (run n found).whole (run-kept n found h))

    pub back-refused : ((step_back found).number ≡ 0 → ⊥)
        → stepping_back block b j ≡ seen (cond (is_block block) (step_back found).number 31) block b j
    unfolding stepping_back
    back-refused h = kept (is_block block) (λ i. i) (step_back found).number (step_back found).whole (back-kept found h)

    -- a load that is refused before it stores: 31, 1, 16, 14
    pub load-unbegun : (words : List ℕ) → begins (unpacked block) b j (words_in words) ≡ false
        → loading words block b j ≡ seen (cond (is_block block && even words) (load_number (unpacked block) b j (words_in words)) 31) block b j
    unfolding loading
    load-unbegun words h =
        let k = load-refused (unpacked block) b j (words_in words) h in
        let e : loaded found (words_in words) ≡ found = rw (k.0, k.1) in
        kept (is_block block && even words) (and_left (is_block block) (even words)) (load_number (unpacked block) b j (words_in words)) (loaded found (words_in words)) e
