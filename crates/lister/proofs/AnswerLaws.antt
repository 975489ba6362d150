-- The first writing counts the listing's bytes, and the second stores them where there is room: one law for each of the two answers. Assumes nothing.
use mathlib.Core.Path.{◌≡◌, sym, ap, ◌∙◌}
use mathlib.Core.List.{List}
use Prim.Native.Nat.{ℕ, ◌≤◌, ◌<◌}
use native.Mathlib.Omega.{arith}
use lib.ListN.{length}
use Rattle.std.specs.Prelude.{Result}
use Rattle.base.specs.Told.{is, no}
use Rattle.printer.specs.Print.{placed}
use Rattle.asm.specs.declared.Totals.{Totals}
use Rattle.asm.specs.declared.Fault.{Fault}
use Rattle.lister.specs.Listing.{outcome, listing, listed, listed_buffer}
use Rattle.lister.specs.Parts.{Tells, shown_of}
use Rattle.pen.specs.Pen.{pen, wrote}
use Rattle.pen.proofs.PenLaws.{whole_length, whole-placed}
use Rattle.lister.proofs.Laws.{listed-fits, listed-19, buffer-fits, buffer-19, listing-length}
use Rattle.lister.proofs.ShownLaws.{shown-listing}

module _ (source words : List ℕ) (a : Result Totals Fault) (t : Tells a words (outcome source)) (full : length words ≡ 32767) where
  short : length (listing source) ≤ 1212432
  short = listing-length source (omega (arith, t.room))

  counts : length (listing source) ≤ 18446744073709551615
  counts = omega (arith, short)

  written : (out : List ℕ) {after : List ℕ} {n : ℕ} → pen after n ≡ wrote (pen out 0) (shown_of a words) → pen after n ≡ wrote (pen out 0) (listing source)
  written out e = e ∙ ap (wrote (pen out 0)) (shown-listing source words a t)

  -- scratch is what was written into first, and n what that counted
  module _ (out scratch : List ℕ) {after : List ℕ} {n : ℕ} (e : pen after n ≡ wrote (pen scratch 0) (shown_of a words)) where
    size : n ≡ length (listing source)
    size = whole_length (listing source) scratch counts (written scratch e)

    pub no_room : length out < n → (no 19 ≡ listed source (length out)) × ((out ≡ listed_buffer source out) × (length (listing source) ≤ 1212432))
    no_room h =
        let g : length out < length (listing source) = rw size at h in
        (sym (listed-19 source (length out) g), (sym (buffer-19 source out g), short))

    pub room : {left : List ℕ} {m : ℕ} → n ≤ length out → pen left m ≡ wrote (pen out 0) (shown_of a words)
        → (is n ≡ listed source (length out)) × ((left ≡ listed_buffer source out) × (length (listing source) ≤ 1212432))
    room {left} {m} h f =
        let g : length (listing source) ≤ length out = rw size at h in
        let stored : left ≡ placed (listing source) out 0 = whole-placed (listing source) out counts (written out f) g in
        (rw size (sym (listed-fits source (length out) g)), (stored ∙ sym (buffer-fits source out g), short))
