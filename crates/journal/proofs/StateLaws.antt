-- When a whole state is valid: what its test says, part by part, and that an emptied journal fits every room. Assumes nothing.
use Prim.Native.Nat.{ℕ, zero, suc, ◌<◌, ◌≤◌, max}
use mathlib.Core.Path.{◌≡◌, refl, sym, ap, ◌∙◌}
use mathlib.Core.Bool.{Bool, true, false, ◌&&◌, ◌||◌}
use mathlib.Core.List.{List}
use lib.Dec.{ltb, leb, eqb}
use borrow.Author.Tests.{ltb-true, leb-true, eqb-true, lt-ltb, le-ltb, le-leb, lt-leb, eq-eqb, ne_eqb}
use native.Mathlib.Omega.{arith}
use Rattle.base.proofs.Tests.{first, second, third}
use Rattle.machine.specs.States as machine
use Rattle.machine.specs.declared.Machine.{Machine}
use Rattle.records.specs.Slots.{room}
use Rattle.journal.specs.States.{Whole, state, next_in, valid, valid_whole}
use Rattle.journal.specs.declared.State.{State}

-- ---- next, in a journal with room for d

-- one test for each kind of journal, as the code has it
next-empty : (n d : ℕ) → d ≡ 0 → next_in n d ≡ eqb n 0
unfolding next_in
next-empty n d e = ap (next_in n) e ∙ (let l : ltb n 0 ≡ false = le-ltb n 0 (omega arith) in rw l (and-true (eqb n 0)))
  where
    and-true : (t : Bool) → (t && true) ≡ t
    and-true true = refl
    and-true false = refl

next-room : (n d : ℕ) → (d ≡ 0 → ⊥) → next_in n d ≡ ltb n d
unfolding next_in
next-room n d h = rw (ne_eqb d 0 h) (or-none (ltb n d) (eqb n 0))
  where
    or-none : (t u : Bool) → (t || (u && false)) ≡ t
    or-none true u = refl
    or-none false true = refl
    or-none false false = refl

-- both in one
next-lt : (n d : ℕ) → next_in n d ≡ true → n < max 1 d
next-lt n zero h = let e : n ≡ 0 = eqb-true n 0 (sym (next-empty n 0 refl) ∙ h) in omega arith
next-lt n (suc d) h = let e : n < suc d = ltb-true n (suc d) (sym (next-room n (suc d) (λ z. omega arith)) ∙ h) in omega arith

next-in : (n d : ℕ) → n < max 1 d → next_in n d ≡ true
next-in n zero h = next-empty n 0 refl ∙ eq-eqb n 0 (omega arith)
next-in n (suc d) h = next-room n (suc d) (λ z. omega arith) ∙ lt-ltb n (suc d) (omega arith)

-- ---- the whole state

module _ (s : State) (dev journal : List ℕ) where
  -- the test, as far as it goes

  pub invalid-tables : machine.valid s.machine dev ≡ false → valid s dev journal ≡ false
  unfolding valid
  invalid-tables h = rw h

  pub invalid-held : room journal < s.held → valid s dev journal ≡ false
  unfolding valid
  invalid-held h =
      let l : leb s.held (room journal) ≡ false = lt-leb s.held (room journal) h in
      rw l (no_second (machine.valid s.machine dev) (next_in s.next (room journal)))
    where
      no_second : (t u : Bool) → (t && false && u) ≡ false
      no_second true u = refl
      no_second false u = refl

  module _ (v : machine.valid s.machine dev ≡ true) (h : s.held ≤ room journal) where
    next-decides : valid s dev journal ≡ next_in s.next (room journal)
    unfolding valid
    next-decides = let l : leb s.held (room journal) ≡ true = le-leb s.held (room journal) h in rw (v, l)

    pub valid-empty : room journal ≡ 0 → valid s dev journal ≡ eqb s.next 0
    valid-empty e = next-decides ∙ next-empty s.next (room journal) e

    pub valid-room : (room journal ≡ 0 → ⊥) → valid s dev journal ≡ ltb s.next (room journal)
    valid-room e = next-decides ∙ next-room s.next (room journal) e

    -- its parts make a valid state
    pub valid-of : s.next < max 1 (room journal) → valid s dev journal ≡ true
    valid-of n = next-decides ∙ next-in s.next (room journal) n

  -- and a valid state has them
  module _ (v : valid s dev journal ≡ true) where
    abbrev tables : Bool
    tables = machine.valid s.machine dev

    abbrev count : Bool
    count = leb s.held (room journal)

    abbrev slot : Bool
    slot = next_in s.next (room journal)

    all_three : (tables && count && slot) ≡ true
    unfolding valid
    all_three = v

    pub valid-machine : machine.valid s.machine dev ≡ true
    valid-machine = first tables count slot all_three

    pub valid-held : s.held ≤ room journal
    valid-held = leb-true s.held (room journal) (second tables count slot all_three)

    pub valid-next : s.next < max 1 (room journal)
    valid-next = next-lt s.next (room journal) (third tables count slot all_three)

    -- where a record is held, next is one of the slots
    pub held_next : (s.held ≡ 0 → ⊥) → s.next < room journal
    held_next h = omega (arith, valid-held, valid-next)

-- an emptied journal is valid in every room: the machine decides
pub valid-emptied : (m : Machine) (dev journal : List ℕ) → valid (state m 0 0) dev journal ≡ machine.valid m dev
valid-emptied m dev journal = go (machine.valid m dev) refl
  where
    go : (t : Bool) → machine.valid m dev ≡ t → valid (state m 0 0) dev journal ≡ machine.valid m dev
    go true v = valid-of (state m 0 0) dev journal v (omega arith) (omega arith) ∙ sym v
    go false v = invalid-tables (state m 0 0) dev journal v ∙ sym v

-- ---- the three parts in one, of all there is

pub record Parts (w : Whole) : Type 0 where
  pub tables : machine.valid w.state.machine w.bytes.dev ≡ true
  pub held : w.state.held ≤ room w.journal
  pub next : w.state.next < max 1 (room w.journal)

module _ (w : Whole) where
  pub parts : valid_whole w ≡ true → Parts w
  parts v = record {
    tables = valid-machine w.state w.bytes.dev w.journal v;
    held = valid-held w.state w.bytes.dev w.journal v;
    next = valid-next w.state w.bytes.dev w.journal v;
  }

  pub together : Parts w → valid_whole w ≡ true
  together p = valid-of w.state w.bytes.dev w.journal p.tables p.held p.next

  -- with room, the next record has a slot
  pub next-slot : valid_whole w ≡ true → 0 < room w.journal → w.state.next < room w.journal
  next-slot v n = omega (arith, (parts v).next)
