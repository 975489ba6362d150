-- What the crates above may use: a refusal changes nothing but what a load keeps, and under each entry, whatever the
-- answer, tables keep their eight entries and a valid state stays valid. Assumes nothing.
use Prim.Native.Nat.{ℕ, ◌+◌}
use mathlib.Core.Path.{◌≡◌, refl, ap, ◌∙◌}
use mathlib.Core.Bool.{Bool, true, false}
use mathlib.Core.List.{List}
use native.Mathlib.Omega.{arith}
use lib.Dec.{eqb}
use lib.ListN.{length}
use borrow.Author.Tests.{ne_eqb}
use Rattle.base.specs.Choice.{cond}
use Rattle.map.specs.Entries as map
use Rattle.map.specs.Valid as tables
use Rattle.map.proofs.KeptLaws.{Eight, eight-region, eight-device, region-kept, device-kept}
use Rattle.map.proofs.Orders.{region-order, device-order}
use Rattle.memory.specs.Bytes.{Lent}
use Rattle.memory.specs.Program as memory
use Rattle.memory.proofs.Laws.{SameLengths, same-lengths}
use Rattle.memory.proofs.ProgramLaws.{words-lengths, load_kept}
use Rattle.machine.specs.States as machine
use Rattle.machine.specs.declared.Machine.{Machine}
use Rattle.machine.proofs.StateLaws.{valid-tables, register-tables}
use Rattle.journal.specs.States.{state, valid}
use Rattle.journal.specs.declared.State.{State}
use Rattle.journal.proofs.StateLaws.{valid-emptied}
use Rattle.host.specs.Host.{with_map, settled, set_number, set_state, protect_number, protect_state, register_number, register_state, load_number, begins, load_map, load_state, load_bytes}
use Rattle.host.proofs.Below.{tables-valid, load-map, load-bytes}

-- ---- a refusal changes nothing

settled-kept : (s : State) (n : ℕ) (m : Machine) → (n ≡ 0 → ⊥) → settled s n m ≡ s
unfolding settled
settled-kept s n m h = rw (ne_eqb n 0 h)

module _ (s : State) (dev journal : List ℕ) where
  pub set-refused : (number value : ℕ) → (set_number s dev journal number ≡ 0 → ⊥) → set_state s dev journal number value ≡ s
  unfolding set_state
  set-refused number value = settled-kept s (set_number s dev journal number) (machine.with_register s.machine number value)

  pub protect-refused : (start len : ℕ) → (protect_number s dev journal start len ≡ 0 → ⊥) → protect_state s dev journal start len ≡ s
  unfolding protect_state
  protect-refused start len =
      settled-kept s (protect_number s dev journal start len) (with_map s.machine (map.with_region s.machine.map (map.region start len)))

  pub register-refused : (start size : ℕ) → (register_number s dev journal start size ≡ 0 → ⊥)
      → register_state s dev journal start size ≡ s
  unfolding register_state
  register-refused start size =
      settled-kept s (register_number s dev journal start size)
      (with_map s.machine (map.with_device s.machine.map (map.device start (start + size))))

-- ---- but what a load keeps

module _ (s : State) (b : Lent) (journal program : List ℕ) where
  -- 1, 16 and 14 keep nothing
  pub load-refused : begins s b journal program ≡ false → (load_state s b journal program ≡ s) × (load_bytes s b journal program ≡ b)
  unfolding load_state load_bytes
  load-refused h = (rw h, rw h)

  -- any other load has the journal emptied, 15 and 13 too
  pub load-empties : begins s b journal program ≡ true
      → ((load_state s b journal program).next ≡ 0) × ((load_state s b journal program).held ≡ 0)
  unfolding load_state
  load-empties h =
      let m = with_map s.machine (load_map s b journal program) in
      let e : load_state s b journal program ≡ state m 0 0 = rw h in
      (ap (λ (x : State). x.next) e, ap (λ (x : State). x.held) e)

  -- a load changes no length
  pub load_same : SameLengths (load_bytes s b journal program) b
  unfolding load_bytes
  load_same = go (begins s b journal program)
    where
      go : (t : Bool) → SameLengths (cond t (memory.store_words s.machine.map b 0 program).bytes b) b
      go true = words-lengths s.machine.map program b 0
      go false = same-lengths b

-- ---- the tables keep their eight entries

module _ (s : State) (dev journal : List ℕ) (e : Eight s.machine.map) where
  settled-eight : (n : ℕ) (m : Machine) → Eight m.map → Eight (settled s n m).machine.map
  unfolding settled
  settled-eight n m h = go (eqb n 0)
    where
      go : (t : Bool) → Eight (cond t (state m 0 0) s).machine.map
      go true = h
      go false = e

  pub set-eight : (number value : ℕ) → Eight (set_state s dev journal number value).machine.map
  unfolding set_state
  set-eight number value =
      settled-eight (set_number s dev journal number) (machine.with_register s.machine number value)
      (rw (register-tables s.machine number value) e)

  pub protect-eight : (start len : ℕ) → Eight (protect_state s dev journal start len).machine.map
  unfolding protect_state
  protect-eight start len =
      settled-eight (protect_number s dev journal start len) (with_map s.machine (map.with_region s.machine.map (map.region start len)))
      (eight-region s.machine.map e (map.region start len))

  pub register-eight : (start size : ℕ) → Eight (register_state s dev journal start size).machine.map
  unfolding register_state
  register-eight start size =
      let d = map.device start (start + size) in
      settled-eight (register_number s dev journal start size) (with_map s.machine (map.with_device s.machine.map d))
      (eight-device s.machine.map e d)

pub load-eight : (s : State) (b : Lent) (journal program : List ℕ) → Eight s.machine.map
    → Eight (load_state s b journal program).machine.map
unfolding load_state load_map
load-eight s b journal program e = go (begins s b journal program) (eqb (load_number s b journal program) 0)
  where
    m : Bool → Machine
    m u = with_map s.machine (cond u (map.with_region s.machine.map (map.region 0 (length program))) s.machine.map)

    go : (t u : Bool) → Eight (cond t (state (m u) 0 0) s).machine.map
    go true true = eight-region s.machine.map e (map.region 0 (length program))
    go true false = e
    go false u = e

-- ---- a valid state stays valid

module _ (s : State) (dev journal : List ℕ) (e : Eight s.machine.map) (v : valid s dev journal ≡ true) where
  settled-valid : (n : ℕ) (m : Machine) → (eqb n 0 ≡ true → tables.valid m.map dev ≡ true) → valid (settled s n m) dev journal ≡ true
  unfolding settled
  settled-valid n m h = go (eqb n 0) h
    where
      go : (t : Bool) → (t ≡ true → tables.valid m.map dev ≡ true) → valid (cond t (state m 0 0) s) dev journal ≡ true
      go true k = valid-emptied m dev journal ∙ valid-tables m dev ∙ k refl
      go false k = v

  pub set-valid : (number value : ℕ) → valid (set_state s dev journal number value) dev journal ≡ true
  unfolding set_state
  set-valid number value =
      settled-valid (set_number s dev journal number) (machine.with_register s.machine number value)
      (λ a. rw (register-tables s.machine number value) (tables-valid s dev journal v))

  pub protect-valid : (start len : ℕ) → valid (protect_state s dev journal start len) dev journal ≡ true
  unfolding protect_state protect_number
  protect-valid start len =
      let r = map.region start len in
      settled-valid (protect_number s dev journal start len) (with_map s.machine (map.with_region s.machine.map r))
      (λ a. region-kept s.machine.map e dev (tables-valid s dev journal v) r (rw (region-order s.machine.map r) (rw v at a)))

  pub register-valid : (start size : ℕ) → valid (register_state s dev journal start size) dev journal ≡ true
  unfolding register_state register_number
  register-valid start size =
      let d = map.device start (start + size) in
      settled-valid (register_number s dev journal start size) (with_map s.machine (map.with_device s.machine.map d))
      (λ a. device-kept s.machine.map e dev (tables-valid s dev journal v) d (omega arith) (rw (device-order s.machine.map (length dev) d) (rw v at a)))

module _ (s : State) (b : Lent) (journal program : List ℕ) (e : Eight s.machine.map) (v : valid s b.dev journal ≡ true) where
  pub load-valid : valid (load_state s b journal program) (load_bytes s b journal program).dev journal ≡ true
  unfolding load_state
  load-valid = go (begins s b journal program) refl
    where
      after : Machine
      after = with_map s.machine (load_map s b journal program)

      go : (t : Bool) → begins s b journal program ≡ t
          → valid (cond t (state after 0 0) s) (load_bytes s b journal program).dev journal ≡ true
      go true h =
          let d = (load_bytes s b journal program).dev in
          valid-emptied after d journal ∙ valid-tables after d
          ∙ rw (← load-map s b journal v program, ← load-bytes s b journal v program)
          (load_kept s.machine.map b program e (tables-valid s b.dev journal v))
      go false h = rw (load-refused s b journal program h).1 v
