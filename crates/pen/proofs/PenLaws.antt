-- Bytes written one after the other are their sum written; a loop writes a list byte by byte; and where the count stays in range it
-- counts every byte, and each is stored. Assumes nothing.
use mathlib.Core.Path.{◌≡◌, refl, ap, ◌∙◌}
use mathlib.Core.List.{List, [], ◌∷◌, ◌++◌}
use Prim.Native.Nat.{ℕ, ◌+◌, ◌≤◌, ◌<◌, min}
use native.Mathlib.Numerals.{add-one}
use native.Mathlib.Omega.{arith}
use mathlib.Core.Bool.{Bool, true, false}
use borrow.Author.Tests.{lt-ltb, ltb-true, ltb-false}
use lib.Dec.{ltb}
use lib.ListN.{length, set}
use lib.Seq.{set_out, sets}
use Rattle.base.specs.Choice.{cond}
use Rattle.printer.specs.Print.{placed}
use Rattle.printer.proofs.Laws.{placed-sets}
use Rattle.pen.specs.Pen.{Pen, pen, pushed, wrote}

-- nothing is written
pub none : (p : Pen) → wrote p [] ≡ p
unfolding wrote
none p = refl

-- x is written, then y
pub joined : (x y : List ℕ) (p : Pen) → wrote (wrote p x) y ≡ wrote p (x ++ y)
unfolding wrote
joined [] y p = refl
joined (b ∷ x) y p = joined x y (pushed p b)

-- ---- one byte: stored within the buffer, and counted

pub put-once :
    (out : List ℕ) (at b : ℕ) (after : List ℕ) (next : ℕ) → length out ≤ 18446744073709551615 → at ≤ 18446744073709551615
    → after ≡ set out at b → next ≡ min (at + 1) 18446744073709551615 → pen after next ≡ wrote (pen out at) (b ∷ [])
unfolding wrote pushed
put-once out at b after next g h e f = go (ltb at 18446744073709551615) refl
  where
    go : (t : Bool) → ltb at 18446744073709551615 ≡ t → pen after next ≡ cond t (pen (set out at b) (at + 1)) (pen out at)
    go true q =
        let k = ltb-true at 18446744073709551615 q in
        let n : next ≡ at + 1 = omega (arith, f, k) in
        rw (e, n)
    go false q =
        let k = ltb-false at 18446744073709551615 q in
        let n : next ≡ at = omega (arith, f, h, k) in
        let s : set out at b ≡ out = set_out out at b (omega (arith, g, k)) in
        rw (e, n, s)

-- ---- the count, and the bytes

counted : (x out : List ℕ) (at : ℕ) → at + length x ≤ 18446744073709551615 → wrote (pen out at) x ≡ pen (sets out at x) (at + length x)
unfolding wrote pushed
counted [] out at h = let e : at ≡ at + 0 = omega arith in ap (pen out) e
counted (b ∷ x) out at h =
    let f : at < 18446744073709551615 = omega arith in
    let g : at + 1 + length x ≤ 18446744073709551615 = omega arith in
    let e : at + 1 + length x ≡ at + length (b ∷ x) = omega arith in
    rw (lt-ltb at 18446744073709551615 f) (counted x (set out at b) (at + 1) g ∙ rw (e, add-one))

module _ (a b : List ℕ) (n m : ℕ) (e : pen a n ≡ pen b m) where
  same-buffer : a ≡ b
  same-buffer = cc

  same-position : n ≡ m
  same-position = cc

-- ---- a text written whole: it is counted, and where there is room its bytes are at the start

module _ (s out : List ℕ) {after : List ℕ} {n : ℕ} (most : length s ≤ 18446744073709551615) (e : pen after n ≡ wrote (pen out 0) s) where
  whole : pen after n ≡ pen (sets out 0 s) (length s)
  whole = let z : 0 + length s ≡ length s = omega arith in e ∙ counted s out 0 (omega arith) ∙ ap (pen (sets out 0 s)) z

  pub whole_length : n ≡ length s
  whole_length = same-position after (sets out 0 s) n (length s) whole

  pub whole-placed : length s ≤ length out → after ≡ placed s out 0
  whole-placed h = same-buffer after (sets out 0 s) n (length s) whole ∙ placed-sets s out 0 (omega arith)
