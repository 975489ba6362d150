-- What is told of the bytes that were read is what is told of the input's first ones, and there is room for it. Assumes nothing.
use mathlib.Core.Path.{sym}
use mathlib.Core.List.{List}
use Prim.Native.Nat.{ℕ}
use native.Mathlib.Omega.{arith}
use lib.Seq.{length-take-le}
use Rattle.std.specs.Io.KnownBytes.{Appends}
use Rattle.sourcing.proofs.Laws.{first-read, text-first, text-within, refusal-first, written}
use Rattle.sourcing.proofs.source_input.Goals as goal

pub slice_bounds-write_all-end : goal.slice_bounds-write_all-end
slice_bounds-write_all-end g c = let h = text-within c.args.out.now c.requires.out_len c.in-Ok.length c.in-Ok.ensures.small in omega (arith, h, c.text_of_bytes.auto.out)

pub slice_bounds-write_all-end-in-Ok : goal.slice_bounds-write_all-end-in-Ok
slice_bounds-write_all-end-in-Ok g c =
    let h = text-within c.args.out.now c.requires.out_len c.in-Ok.length c.in-Ok.ensures.small in
    sym (length-take-le c.in-Ok.length c.text_of_bytes.new.out (omega (arith, h, c.text_of_bytes.auto.out)))

pub returns-in-Ok : goal.returns-in-Ok
returns-in-Ok g c =
    let n = c.in_ok-n.n in
    let read = length-take-le n c.read_full.new.buf c.in_ok-n.ensures.within in
    written c.write_all.result _ (λ (l : List ℕ). Appends (g.W.Write.contents c.args.output.now) (g.W.Write.contents c.write_all.new.self) l) _ _ c.write_all.ensures.bytes
    (text-first _ c.args.out.now c.requires.out_len c.in-Ok.length c.text_of_bytes.new.out c.in-Ok.ensures.result_value c.in-Ok.ensures.out_after)
    (first-read _ (g.R.Read.remaining c.read_full.new.input) _ c.in_ok-n.ensures.bytes (omega (arith, read, c.in_ok-n.ensures.within, c.requires.words_len, c.read_full.auto.buf)) (λ h. c.in_ok-n.ensures.end (omega (arith, h, read, c.requires.words_len, c.read_full.auto.buf))))

pub returns-in-Err : goal.returns-in-Err
returns-in-Err g c =
    let n = c.in_ok-n.n in
    let read = length-take-le n c.read_full.new.buf c.in_ok-n.ensures.within in
    written c.write_refusal.result _ (λ (l : List ℕ). Appends (g.W.Write.contents c.args.output.now) (g.W.Write.contents c.write_refusal.new.w) l) _ _ c.write_refusal.ensures
    (refusal-first _ c.args.out.now c.requires.out_len _ _ c.in-Err.ensures.result_value)
    (first-read _ (g.R.Read.remaining c.read_full.new.input) _ c.in_ok-n.ensures.bytes (omega (arith, read, c.in_ok-n.ensures.within, c.requires.words_len, c.read_full.auto.buf)) (λ h. c.in_ok-n.ensures.end (omega (arith, h, read, c.requires.words_len, c.read_full.auto.buf))))
