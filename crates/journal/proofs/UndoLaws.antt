-- A record undoes its step: each byte that was stored is put back by memory's own law, the second one first, and the registers
-- are those it holds. Assumes nothing.
use Prim.Native.Nat.{ℕ}
use Rattle.std.specs.Prelude.{Some}
use mathlib.Core.Path.{◌≡◌, refl, sym, ap, ◌∙◌}
use mathlib.Core.Bool.{true}
use Rattle.map.specs.declared.Map.{Map}
use Rattle.machine.specs.Plan.{plan}
use Rattle.machine.specs.Step as machine
use Rattle.machine.specs.declared.Machine.{Machine}
use Rattle.machine.specs.declared.Registers.{Registers}
use Rattle.machine.proofs.Laws as machine-laws
use Rattle.machine.proofs.PlanLaws.{plan-sound}
use Rattle.memory.specs.Bytes.{Lent, get, place_in, read_byte, takes, store_byte}
use Rattle.memory.specs.Words.{made}
use Rattle.memory.specs.declared.Change.{Change}
use Rattle.memory.specs.declared.Changes.{Changes}
use Rattle.memory.specs.declared.Changes.TheVariants.{Nothing, One, Two}
use Rattle.memory.proofs.Laws.{store-undo, takes-kept, takes-mapped, read-other}
use Rattle.memory.proofs.Decisions.{SoundChange, Sound, old-byte, nothing-made, one-stored, two-stored}
use Rattle.records.specs.declared.Record.{Record}
use Rattle.journal.specs.States.{Whole, valid_whole}
use Rattle.journal.specs.Step.{byte_of, replaced, record_of}
use Rattle.journal.specs.Back.{used_by, fits, restored, with}
use Rattle.journal.proofs.StateLaws.{parts}
use Rattle.journal.proofs.StepLaws.{own, own_record, record-registers}

-- ---- the bytes

module _ (m : Map) (b : Lent) where
  -- the old byte of a change is the one that is read at its address
  old-read : (x : Change) → SoundChange m b x
      → read_byte m b x.address ≡ Some (byte_of (get x.place b), place_in m b x.address)
  unfolding byte_of
  old-read x h =
      let k = takes-mapped m b x.address x.byte h.taken in
      k.1 ∙ ap (λ (v : ℕ). Some (v, place_in m b x.address)) (sym (ap byte_of (old-byte m b x h ∙ k.1)))

  -- two stores change nothing of what takes a store
  both-kept : (x y : Change) (a : ℕ)
      → takes m (store_byte m (store_byte m b x.address x.byte) y.address y.byte) a ≡ takes m b a
  both-kept x y a =
      takes-kept m (store_byte m b x.address x.byte) y.address y.byte a ∙ takes-kept m b x.address x.byte a

  -- the record of changes, over the bytes after them
  module _ (s : Registers) where
    changes-fit : (c : Changes) → Sound m b c → fits m (made c b) (record_of s b c) (used_by (record_of s b c).kind) ≡ true
    unfolding fits used_by record_of replaced
    changes-fit Nothing h = refl
    changes-fit (One x) h = rw (one-stored m b x h, takes-kept m b x.address x.byte x.address) h.taken
    changes-fit (Two x y) h =
        rw (two-stored m b x y h.0 h.1, both-kept x y y.address, both-kept x y x.address, h.1.taken, h.0.taken)

    changes-undone : (c : Changes) → Sound m b c → restored m (made c b) (record_of s b c) (used_by (record_of s b c).kind) ≡ b
    unfolding restored used_by record_of replaced
    changes-undone Nothing h = nothing-made b
    changes-undone (One x) h =
        let old = byte_of (get x.place b) in
        rw (one-stored m b x h) (store-undo m b x.address x.byte old (place_in m b x.address) (old-read x h))
    changes-undone (Two x y) h =
        let t = store_byte m b x.address x.byte in
        let first = byte_of (get x.place b) in
        let second = byte_of (get y.place b) in
        let k = read-other m b x.address x.byte y.address h.2 ∙ old-read y h.1 in
        rw (two-stored m b x y h.0 h.1, store-undo m t y.address y.byte second (place_in m b y.address) k)
        (store-undo m b x.address x.byte first (place_in m b x.address) (old-read x h.0))

-- ---- the machine and the bytes

pub record Point : Type 0 where
  pub machine : Machine
  pub bytes : Lent

abbrev pub point : Machine → Lent → Point
point m b = record { machine = m; bytes = b }

-- the record fits at t, and leads from there back to s
pub record Undoes (r : Record) (t s : Point) : Type 0 where
  pub fitting : fits t.machine.map t.bytes r (used_by r.kind) ≡ true
  pub machine : with t.machine r ≡ s.machine
  pub bytes : restored t.machine.map t.bytes r (used_by r.kind) ≡ s.bytes

module _ (w : Whole) (h : valid_whole w ≡ true) where
  own-made : (own w).bytes ≡ made (plan w.state.machine w.bytes).changes w.bytes
  own-made =
      let m = w.state.machine in
      let b = w.bytes in
      ap (λ (x : machine.After). x.bytes) (machine-laws.valid-step m b (parts w h).tables ∙ machine-laws.committed-as m b (plan m b))

  -- a step's record leads back to where the step was made
  pub record-undoes : Undoes (own_record w) (point (own w).machine (own w).bytes) (point w.state.machine w.bytes)
  record-undoes =
      let m = w.state.machine in
      let b = w.bytes in
      let c = (plan m b).changes in
      let tables = machine-laws.step_map m b in
      record {
        fitting = rw (tables, own-made) (changes-fit m.map b m.registers c (plan-sound m b));
        machine = rw (tables, machine-laws.step-mode m b, record-registers m.registers b c);
        bytes = rw (tables, own-made) (changes-undone m.map b m.registers c (plan-sound m b));
      }
