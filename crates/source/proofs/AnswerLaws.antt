-- What is answered and left, by the tests of the order one after the other; the first writing counts the text's bytes, and the second
-- stores them where there is room. Assumes nothing.
use mathlib.Core.Path.{◌≡◌, refl, sym, ap, ◌∙◌}
use mathlib.Core.List.{List, map}
use Prim.Native.Nat.{ℕ, ◌≤◌, ◌<◌}
use native.Mathlib.Omega.{arith}
use borrow.Author.Tests.{lt-ltb, le-ltb}
use lib.ListN.{length, replicate, length-map}
use Rattle.std.specs.Prelude.{Bool, false, Result, Ok, Err}
use Rattle.base.specs.Numbers.{number_of}
use Rattle.base.proofs.Laws.{number-one}
use Rattle.printer.specs.Print.{placed}
use Rattle.pen.specs.Pen.{pen, wrote}
use Rattle.pen.proofs.PenLaws.{whole_length, whole-placed}
use Rattle.text.specs.Lines.{ended}
use Rattle.source.specs.Words.{instruction_of, lowest}
use Rattle.source.specs.Source.{used_by, lines_of, source_of, source_text, sourced, Answer, length_of, refusal, answer, answered, source_buffer}
use Rattle.source.specs.declared.Fault.{Fault}
use Rattle.source.specs.Marks.{marked, used_in}
use Rattle.source.proofs.MarkLaws.{words-fit, lines-marked}
use Rattle.source.proofs.Longest.{text-most}

-- an answer, and the buffer with it
abbrev Ends : List ℕ → List ℕ → Answer → List ℕ → Type 0
Ends ws out a after = (a ≡ answer ws (length out)) × (after ≡ source_buffer ws out)

module _ (ws out : List ℕ) where
  pub ends-16 : 32767 < length ws → Ends ws out (refusal 16 0) out
  unfolding answer source_buffer sourced
  ends-16 h = rw (lt-ltb 32767 (length ws) h) (refl, refl)

  module _ (most : length ws ≤ 32767) where
    pub ends-33 : {k : ℕ} → k ≡ lowest ws → k < length ws → Ends ws out (refusal 33 k) out
    unfolding answer source_buffer sourced
    ends-33 e h = let l : lowest ws < length ws = omega arith in rw (e, le-ltb 32767 (length ws) most, lt-ltb (lowest ws) (length ws) l) (refl, refl)

    module _ (all : length ws ≤ lowest ws) where
      ends-19 : length out < length (source_text ws) → Ends ws out (refusal 19 0) out
      unfolding answer source_buffer sourced
      ends-19 h = rw (le-ltb 32767 (length ws) most, le-ltb (lowest ws) (length ws) all, lt-ltb (length out) (length (source_text ws)) h) (refl, refl)

      ends-text : length (source_text ws) ≤ length out → Ends ws out (length_of (length (source_text ws))) (placed (source_text ws) out 0)
      unfolding answer source_buffer sourced
      ends-text h = rw (le-ltb 32767 (length ws) most, le-ltb (lowest ws) (length ws) all, le-ltb (length out) (length (source_text ws)) h) (refl, refl)

      -- the lines by the marks are the text
      module _ (used : List Bool) (m : used ≡ marked (map instruction_of ws) (replicate 1024 false)) where
        abbrev pub written : List ℕ
        written = ended (lines_of (used_in used) (length ws) 0 (map instruction_of ws))

        text-written : written ≡ source_text ws
        unfolding source_of
        text-written =
            let xs = map instruction_of ws in
            ap (λ (u : List Bool). ended (lines_of (used_in u) (length ws) 0 xs)) m
            ∙ ap ended (lines-marked xs (words-fit ws) (length ws))
            ∙ ap (λ (n : ℕ). ended (lines_of (used_by xs) n 0 xs)) (sym (length-map ws instruction_of))

        counts : length (source_text ws) ≤ 18446744073709551615
        counts = omega (arith, text-most ws most)

        -- scratch is what was written into first, and n what that counted
        module _ (scratch : List ℕ) {after : List ℕ} {n : ℕ} (e : pen after n ≡ wrote (pen scratch 0) written) where
          size : n ≡ length (source_text ws)
          size = whole_length (source_text ws) scratch counts (e ∙ ap (wrote (pen scratch 0)) text-written)

          pub no_room : length out < n → Ends ws out (refusal 19 0) out
          no_room h = ends-19 (omega (arith, h, size))

          pub room : {left : List ℕ} {p : ℕ} → n ≤ length out → pen left p ≡ wrote (pen out 0) written → Ends ws out (length_of n) left
          room {left} {p} h f =
              let g : length (source_text ws) ≤ length out = omega (arith, h, size) in
              let e = ends-text g in
              (ap length_of size ∙ e.0, whole-placed (source_text ws) out counts (f ∙ ap (wrote (pen out 0)) text-written) g ∙ e.1)

-- ---- two answers that are told alike are one: a refusal by its number

pub written_one : (a b : Result ℕ Fault) → answered a ≡ answered b → a ≡ b
written_one (Ok n) (Ok k) e = let z : n ≡ k = cc in ap Ok z
written_one (Ok n) (Err f) e = absurd (let z : ◌≡◌ {A = ℕ} 0 1 = cc in omega arith)
written_one (Err f) (Ok n) e = absurd (let z : ◌≡◌ {A = ℕ} 0 1 = cc in omega arith)
written_one (Err f) (Err g) e =
    let number : number_of f.refusal ≡ number_of g.refusal = cc in
    let refusal_one : f.refusal ≡ g.refusal = number-one f.refusal g.refusal number in
    let index_one : f.index ≡ g.index = cc in
    ap Err (λ i. record { refusal = refusal_one i; index = index_one i })
