-- The line has room, and its bytes are those that are written. Assumes nothing.
use mathlib.Core.Path.{sym, subst}
use mathlib.Core.List.{List}
use Prim.Native.Nat.{ℕ}
use native.Mathlib.Omega.{arith}
use lib.ListN.{replicate, length-replicate}
use lib.Seq.{length-take-le}
use Rattle.std.specs.Result.{OnOk}
use Rattle.std.specs.Io.KnownBytes.{Appends}
use Rattle.sourcing.proofs.Laws.{line-within, line-first}
use Rattle.sourcing.proofs.write_refusal.Goals as goal

pub slice_bounds-line-end : goal.slice_bounds-line-end
slice_bounds-line-end g c =
    let h = line-within _ _ (replicate 64 0) (length-replicate {A = ℕ} 64 0) c.refusal_line-n.ensures in
    omega (arith, h, c.refusal_line-n.auto.out, length-replicate {A = ℕ} 64 0)

pub slice_bounds-write_all-end : goal.slice_bounds-write_all-end
slice_bounds-write_all-end g c =
    let h = line-within _ _ (replicate 64 0) (length-replicate {A = ℕ} 64 0) c.refusal_line-n.ensures in
    sym (length-take-le c.refusal_line-n.result c.refusal_line-n.new.out (omega (arith, h, c.refusal_line-n.auto.out, length-replicate {A = ℕ} 64 0)))

pub returns : goal.returns
returns g c =
    subst (λ (l : List ℕ). OnOk c.write_all.result (Appends (g.W.Write.contents c.args.w.now) (g.W.Write.contents c.write_all.new.self) l))
    (line-first _ _ (replicate 64 0) (length-replicate {A = ℕ} 64 0) c.refusal_line-n.ensures) c.write_all.ensures.bytes
