-- One turn of the loop over the words, and its end: what is left to write is the lines from word k on. Assumes nothing.
use mathlib.Core.Path.{◌≡◌, sym, ap, ◌∙◌}
use mathlib.Core.Bool.{Bool, true, false}
use mathlib.Core.List.{List, [], ◌∷◌, ◌++◌, map, append_assoc}
use Prim.Native.Nat.{ℕ, ◌+◌, ◌≤◌, ◌<◌}
use native.Mathlib.Numerals.{add-one}
use lib.ListN.{length, drop, get_or, drop_of_length-le}
use lib.Seq.{drop-cons, append_snoc}
use Rattle.base.specs.Choice.{cond}
use Rattle.base.specs.Words.{doubled}
use Rattle.instruction.specs.declared.Instruction.{Instruction}
use Rattle.pen.specs.Pen.{Pen, wrote}
use Rattle.pen.proofs.PenLaws.{none, joined}
use Rattle.text.specs.Lines.{ended}
use Rattle.source.specs.Words.{instruction_of}
use Rattle.source.specs.Source.{label_line, line_of, lines_of}
use Rattle.source.specs.Marks.{label_before}

module _ (used : ℕ → Bool) (n : ℕ) where
  -- the first of the lines, after its label line
  first-line : (k : ℕ) (i : Instruction) (xs : List Instruction)
      → ended (lines_of used n k (i ∷ xs)) ≡ label_before used k ++ (line_of n i ++ 10 ∷ []) ++ ended (lines_of used n (k + 1) xs)
  first-line k i xs = go (used (doubled k))
    where
      rest : List ℕ
      rest = ended (lines_of used n (k + 1) xs)

      go : (t : Bool) → ended (cond t (label_line (doubled k) ∷ line_of n i ∷ lines_of used n (k + 1) xs) (line_of n i ∷ lines_of used n (k + 1) xs))
          ≡ cond t (label_line (doubled k) ++ 10 ∷ []) [] ++ (line_of n i ++ 10 ∷ []) ++ rest
      go true =
          sym (append_assoc (label_line (doubled k) ++ 10 ∷ []) (line_of n i ++ 10 ∷ []) rest
          ∙ append_snoc (label_line (doubled k)) 10 ((line_of n i ++ 10 ∷ []) ++ rest)
          ∙ ap (λ (l : List ℕ). label_line (doubled k) ++ 10 ∷ l) (append_snoc (line_of n i) 10 rest))
      go false = sym (append_snoc (line_of n i) 10 rest)

  module _ (p : Pen) (ws : List ℕ) (k : ℕ) where
    pub lines_more : {q r : Pen} → k < length ws → q ≡ wrote p (label_before used k) → r ≡ wrote q (line_of n (instruction_of (get_or ws k 0)) ++ 10 ∷ [])
        → wrote p (ended (lines_of used n k (map instruction_of (drop k ws)))) ≡ wrote r (ended (lines_of used n (k + 1) (map instruction_of (drop (k + 1) ws))))
    lines_more h e f =
        let i = instruction_of (get_or ws k 0) in
        let xs = map instruction_of (drop (k + 1) ws) in
        let l : map instruction_of (drop k ws) ≡ i ∷ xs = rw (drop-cons ws k 0 h, add-one) in
        rw (l, first-line k i xs, f, e) (sym (ap (λ (z : Pen). wrote z (ended (lines_of used n (k + 1) xs))) (joined (label_before used k) (line_of n i ++ 10 ∷ []) p) ∙ joined (label_before used k ++ (line_of n i ++ 10 ∷ [])) (ended (lines_of used n (k + 1) xs)) p))

    pub lines-no-more : length ws ≤ k → wrote p (ended (lines_of used n k (map instruction_of (drop k ws)))) ≡ p
    lines-no-more h = rw (drop_of_length-le ws h) (none p)
