-- The tests stand in the definition's order, and what is left is what the calls promise. Assumes nothing.
use mathlib.Core.Path.{◌≡◌, sym, ap, ◌∙◌}
use mathlib.Core.Bool.{true, false}
use native.Mathlib.Omega.{arith}
use borrow.Author.Rules.{rules}
use Prim.Native.Nat.{ℕ, ◌<◌}
use Rattle.std.specs.Prelude.{Some, None}
use Rattle.base.specs.Numbers.{answer_number}
use Rattle.memory.specs.Bytes.{lent}
use Rattle.records.specs.Slots.{room}
use Rattle.records.proofs.Ring.{before-lt}
use Rattle.journal.specs.States.{Whole, whole, valid_whole}
use Rattle.journal.specs.Back.{backed, newest}
use Rattle.journal.proofs.StateLaws.{held_next}
use Rattle.journal.proofs.BackLaws.{back-invalid, back_none}
use Rattle.journal.proofs.BackCases.{back-unknown, back-bad, back_done}
use Rattle.journal.proofs.backs.step_back.Goals as goal

pub returns-then-not-valid : goal.returns-then-not-valid
returns-then-not-valid c = let w : Whole = whole c.args.s.now (lent c.args.mem.now c.args.dev.now) c.args.journal.now in
    let v : valid_whole w ≡ false = sym c.valid.ensures ∙ c.if-not-valid.true in
    sym (back-invalid w v)

pub returns-then-s-eq0 : goal.returns-then-s-eq0
returns-then-s-eq0 c = let w : Whole = whole c.args.s.now (lent c.args.mem.now c.args.dev.now) c.args.journal.now in
    let v : valid_whole w ≡ true = sym c.valid.ensures ∙ c.if-not-valid.false in
    sym (back_none w v c.if-s-eq0.true)

pub slot_before-slot-requires : goal.slot_before-slot-requires
slot_before-slot-requires c = let w : Whole = whole c.args.s.now (lent c.args.mem.now c.args.dev.now) c.args.journal.now in
    let v : valid_whole w ≡ true = sym c.valid.ensures ∙ c.if-not-valid.false in
    rw c.room.ensures (held_next c.args.s.now c.args.dev.now c.args.journal.now v c.if-s-eq0.false)

pub read-r-requires : goal.read-r-requires
read-r-requires c = let w : Whole = whole c.args.s.now (lent c.args.mem.now c.args.dev.now) c.args.journal.now in
    let v : valid_whole w ≡ true = sym c.valid.ensures ∙ c.if-not-valid.false in
    let h : c.args.s.now.next < room c.args.journal.now = held_next c.args.s.now c.args.dev.now c.args.journal.now v c.if-s-eq0.false in
    rw (c.slot_before-slot.ensures, c.room.ensures) (before-lt (room c.args.journal.now) c.args.s.now.next (omega arith))

pub returns-in_err-used : goal.returns-in_err-used
unfolding newest
returns-in_err-used c = let w : Whole = whole c.args.s.now (lent c.args.mem.now c.args.dev.now) c.args.journal.now in
    let v : valid_whole w ≡ true = sym c.valid.ensures ∙ c.if-not-valid.false in
    let r : c.read-r.result ≡ newest w = c.read-r.ensures ∙ rw (c.slot_before-slot.ensures, c.room.ensures) in
    let n : c.used_by.result ≡ None = grind arith in
    let q : answer_number c.from_residual.result ≡ 11 = search rules in
    ap (λ (k : ℕ). backed k w) q ∙ sym (back-unknown w v c.if-s-eq0.false c.read-r.result r (sym c.used_by.ensures ∙ n))

pub returns-then-not-fits : goal.returns-then-not-fits
unfolding newest
returns-then-not-fits c = let w : Whole = whole c.args.s.now (lent c.args.mem.now c.args.dev.now) c.args.journal.now in
    let v : valid_whole w ≡ true = sym c.valid.ensures ∙ c.if-not-valid.false in
    let r : c.read-r.result ≡ newest w = c.read-r.ensures ∙ rw (c.slot_before-slot.ensures, c.room.ensures) in
    let u : c.used_by.result ≡ Some c.in_ok-used.used = grind arith in
    sym (back-bad w v c.if-s-eq0.false c.read-r.result (Some c.in_ok-used.used) r (sym u ∙ c.used_by.ensures) (sym c.fits.ensures ∙ c.if-not-fits.true))

pub returns : goal.returns
unfolding newest
returns c = let w : Whole = whole c.args.s.now (lent c.args.mem.now c.args.dev.now) c.args.journal.now in
    let v : valid_whole w ≡ true = sym c.valid.ensures ∙ c.if-not-valid.false in
    let r : c.read-r.result ≡ newest w = c.read-r.ensures ∙ rw (c.slot_before-slot.ensures, c.room.ensures) in
    let u : c.used_by.result ≡ Some c.in_ok-used.used = grind arith in
    rw (c.slot_before-slot.ensures, c.room.ensures, c.restore.ensures)
    (sym (back_done w v c.if-s-eq0.false c.read-r.result (Some c.in_ok-used.used) r (sym u ∙ c.used_by.ensures) (sym c.fits.ensures ∙ c.if-not-fits.false)))
