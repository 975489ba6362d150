-- The text of instructions means these very instructions: each line has printed bytes alone, so the lines of the text are those that were
-- written, and these mean them (Resolve.antt). Assumes nothing.
use Prim.Native.Nat.{ℕ, ◌+◌, ◌≤◌}
use mathlib.Core.Path.{◌≡◌, refl, ap, ◌∙◌}
use mathlib.Core.Bool.{Bool, true}
use mathlib.Core.List.{List, [], ◌∷◌, map}
use lib.ListN.{length}
use Rattle.base.specs.Bytes.{bytes}
use Rattle.base.specs.Words.{doubled}
use Rattle.instruction.specs.declared.Instruction.{Instruction}
use Rattle.text.specs.Lines.{ended}
use Rattle.text.proofs.JoinedLaws.{every, every_append}
use Rattle.text.proofs.EndedLaws.{is_printed, plain-printed, printed-joined, Printed, lines-ended}
use Rattle.asm.specs.Meaning.{instruction, meaning}
use Rattle.asm.specs.Named.{name_line, meant_of}
use Rattle.asm.proofs.Named.{meaning-named}
use Rattle.source.specs.Source.{label_name, reference_name, label_line, line_of, used_by, lines_of, source_of}
use Rattle.source.proofs.Cases.{line-cases, label-cases}
use Rattle.source.proofs.Printed.{plain-printed-line}
use Rattle.source.proofs.Refers.{name-plain, refer-joined, refer-plain}
use Rattle.source.proofs.Resolve.{Good, lines-meant}

label-printed : (a : ℕ) → every is_printed (label_line a) ≡ true
unfolding label_line
label-printed a = every_append is_printed (label_name a) (bytes ":") (plain-printed (label_name a) (name-plain a)) refl

line-printed : (n : ℕ) (i : Instruction) → every is_printed (line_of n i) ≡ true
line-printed n i =
    line-cases (λ l x. every is_printed l ≡ true) n i (plain-printed-line i)
    (λ r a e q. rw (refer-joined r a) (printed-joined (reference_name r ∷ label_name a ∷ []) (refer-plain r a)))

pub lines-printed : (used : ℕ → Bool) (n k : ℕ) (xs : List Instruction) → Printed (lines_of used n k xs)
lines-printed used n k [] = tt
lines-printed used n k (i ∷ xs) =
    let h : Printed (line_of n i ∷ lines_of used n (k + 1) xs) = (line-printed n i, lines-printed used n (k + 1) xs) in
    label-cases Printed used n k i xs (λ e. (label-printed (doubled k), h)) (λ e. h)

pub meaning-source : (xs : List Instruction) → length xs ≤ 32767 → Good xs → meaning (source_of xs) ≡ map instruction xs
unfolding source_of
meaning-source xs most g =
    let ls = lines_of (used_by xs) (length xs) 0 xs in
    meaning-named (ended ls) ∙
    ap (λ (l : List (List ℕ)). meant_of [] 0 (map name_line l)) (lines-ended ls (lines-printed (used_by xs) (length xs) 0 xs)) ∙
    lines-meant xs most g
