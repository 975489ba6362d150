-- A refusal's line is short, and what was read is the input's first bytes; so what stands at the start of the buffer is what is to be
-- written. Assumes nothing.
use Prim.Native.Nat.{ℕ, ◌≤◌, ◌<◌}
use mathlib.Core.Path.{◌≡◌, refl, sym, ap, subst, ◌∙◌}
use mathlib.Core.List.{List, ◌++◌}
use mathlib.Core.Bool.{Bool, true, false}
use native.Mathlib.Omega.{arith}
use borrow.Author.Tests.{ltb-true, ltb-false}
use lib.Dec.{ltb}
use lib.ListN.{length, take, length-append}
use lib.Seq.{take-append-le}
use Rattle.std.proofs.Common.{append-nil, take_all}
use Rattle.std.specs.Prelude.{Option, Some, None, Result, Ok, Err, IfSome, OnOk}
use Rattle.std.specs.Io.KnownBytes.{Consumes, IsAtEnd}
use Rattle.printer.proofs.Laws.{placed_first}
use Rattle.pen.specs.Pen.{pen, wrote}
use Rattle.pen.proofs.PenLaws.{whole_length, whole-placed}
use Rattle.pen.proofs.NumberLaws.{decimal-length}
use Rattle.source.specs.Source.{length_of, refusal, byte_answer, byte_buffer, Small, longest_text}
use Rattle.source.proofs.ByteLaws.{byte-length}
use Rattle.sourcing.specs.Sourcing.{refusal_line, read_output, output_of}

line-most : (number index : ℕ) → length (refusal_line number index) ≤ 64
unfolding refusal_line
line-most number index = simp length-append (omega (arith, decimal-length number, decimal-length index))

-- the line that was written at the start of 64 bytes
module _ (number index : ℕ) (room : List ℕ) (full : length room ≡ 64) {after : List ℕ} {n : ℕ} (e : pen after n ≡ wrote (pen room 0) (refusal_line number index)) where
  counts : length (refusal_line number index) ≤ 18446744073709551615
  counts = omega (arith, line-most number index)

  line_length : n ≡ length (refusal_line number index)
  line_length = whole_length (refusal_line number index) room counts e

  pub line-within : n ≤ 64
  line-within = omega (arith, line_length, line-most number index)

  pub line-first : take n after ≡ refusal_line number index
  line-first =
      let h : length (refusal_line number index) ≤ length room = omega (arith, full, line-most number index) in
      rw (line_length, whole-placed (refusal_line number index) room counts e h) (placed_first (refusal_line number index) room)

-- with room for 65,536 bytes, what was read is the input's first so many
pub first-read : (known left : Option (List ℕ)) (read : List ℕ) → Consumes known left read → length read ≤ 65536 → (length read < 65536 → IsAtEnd left)
    → IfSome known (λ input. read ≡ take 65536 input)
first-read None left read c m e = tt
first-read (Some input) None read c m e = absurd c
first-read (Some input) (Some rest) read c m e = go (ltb (length read) 65536) refl
  where
    go : (t : Bool) → ltb (length read) 65536 ≡ t → read ≡ take 65536 input
    go true q =
        let end = e (ltb-true (length read) 65536 q) in
        let all : input ≡ read = c ∙ ap (λ l. read ++ l) end ∙ append-nil read in
        let short : length input ≤ 65536 = omega (arith, ap length all, m) in
        sym (take_all 65536 input short ∙ all)
    go false q =
        let h = ltb-false (length read) 65536 q in
        let size : 65536 ≡ length read = omega arith in
        sym (ap (take 65536) c ∙ take-append-le 65536 read rest h ∙ take_all 65536 read m)

pub text-within : (out : List ℕ) → length out ≡ longest_text → (n : ℕ) → Small (length_of n) → n ≤ length out
text-within out full n h = omega (arith, h, full)

-- what is told of the bytes that were read
module _ (read out : List ℕ) (full : length out ≡ longest_text) where
  pub text-first : (n : ℕ) (after : List ℕ) → length_of n ≡ byte_answer read (length out) → after ≡ byte_buffer read out → take n after ≡ read_output read
  unfolding read_output
  text-first n after e f = rw (f, ← full, ← e) (byte-length read out n (sym e)).2

  pub refusal-first : (number index : ℕ) → refusal number index ≡ byte_answer read (length out) → refusal_line number index ≡ read_output read
  unfolding read_output
  refusal-first number index e = rw (← full, ← e)

-- and so what was written is the input's
pub written : {T E : Type 0} (r : Result T E) (known : Option (List ℕ)) (A : List ℕ → Type 0) (l read : List ℕ) → OnOk r (A l) → l ≡ read_output read
    → IfSome known (λ input. read ≡ take 65536 input) → OnOk r (IfSome known (λ input. A (output_of input)))
written (Ok x) None A l read a e h = tt
written (Ok x) (Some input) A l read a e h = subst A (e ∙ ap read_output h) a
written (Err x) known A l read a e h = tt
