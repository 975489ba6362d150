-- The listing of what was read is the input's, and there is room for it. Assumes nothing.
use mathlib.Core.Path.{sym, ◌∙◌}
use mathlib.Core.List.{List}
use Prim.Native.Nat.{ℕ}
use native.Mathlib.Omega.{arith}
use lib.Seq.{length-take-le}
use Rattle.std.specs.Io.KnownBytes.{Appends}
use Rattle.base.proofs.ToldLaws.{is-not-no}
use Rattle.listing.proofs.Laws.{whole, given, within, first, written}
use Rattle.listing.proofs.list_input.Goals as goal

pub slice_bounds-write_all-end : goal.slice_bounds-write_all-end
slice_bounds-write_all-end g c =
    let h = within _ c.args.out.now c.in-Ok.ensures.text_len_bound c.requires.out_len c.in-Ok.length c.in-Ok.ensures.result_value in
    omega (arith, h, c.list.auto.out)

pub slice_bounds-write_all-end-in-Ok : goal.slice_bounds-write_all-end-in-Ok
slice_bounds-write_all-end-in-Ok g c =
    let h = within _ c.args.out.now c.in-Ok.ensures.text_len_bound c.requires.out_len c.in-Ok.length c.in-Ok.ensures.result_value in
    sym (length-take-le c.in-Ok.length c.list.new.out (omega (arith, h, c.list.auto.out)))

pub returns-in-Ok : goal.returns-in-Ok
returns-in-Ok g c =
    let n = c.in_ok-n.n in
    let read = length-take-le n c.read_full.new.buf c.in_ok-n.ensures.within in
    written c.write_all.result _ (λ (l : List ℕ). Appends (g.W.Write.contents c.args.output.now) (g.W.Write.contents c.write_all.new.self) l) _ _ c.write_all.ensures.bytes
    (first _ c.args.out.now c.in-Ok.ensures.text_len_bound c.requires.out_len c.in-Ok.length c.list.new.out c.in-Ok.ensures.result_value c.in-Ok.ensures.out_after)
    (whole _ (g.R.Read.remaining c.read_full.new.input) _ c.in_ok-n.ensures.bytes (λ h. c.in_ok-n.ensures.end (omega (arith, h, read, c.requires.text_len, c.read_full.auto.buf))))

pub returns-in-Err : goal.returns-in-Err
returns-in-Err g c =
    let e = given _ c.args.out.now c.in-Err.ensures.text_len_bound c.requires.out_len in
    is-not-no _ _ (sym e ∙ sym c.in-Err.ensures.result_value)
