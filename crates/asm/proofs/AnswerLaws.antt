-- Two answers that are told alike are one: counts and what a line is by themselves, a refusal by its number. Assumes nothing.
use Prim.Native.Nat.{ℕ}
use mathlib.Core.Path.{◌≡◌, refl, sym, ap, ◌∙◌}
use native.Mathlib.Omega.{arith}
use Rattle.base.specs.Numbers.{number_of}
use Rattle.base.proofs.Laws.{number-one}
use Rattle.base.proofs.ToldLaws.{is_one, is-not-no, no_one}
use Rattle.base.specs.declared.refusals.Refusal.{Refusal}
use Rattle.std.specs.Prelude.{Result, Ok, Err}
use Rattle.asm.specs.Assemble.{counts, refusal, reported}
use Rattle.asm.specs.Reading.{Item, skip, label, says, refers, item_of, told_item}
use Rattle.asm.specs.declared.Totals.{Totals}
use Rattle.asm.specs.declared.Fault.{Fault}
use Rattle.asm.specs.declared.Line.{Line}

refusal-numbers : (n k line at : ℕ) → refusal n line ≡ refusal k at → n ≡ k
refusal-numbers n k line at e = cc

refusal-lines : (n k line at : ℕ) → refusal n line ≡ refusal k at → line ≡ at
refusal-lines n k line at e = cc

counts-one : (a b : Totals) → counts a.words a.labels a.waiting ≡ counts b.words b.labels b.waiting → a ≡ b
counts-one a b e =
    let w : a.words ≡ b.words = cc in
    let l : a.labels ≡ b.labels = cc in
    let o : a.waiting ≡ b.waiting = cc in
    rw (w, l, o)

counts-no-refusal : {B : Type 0} (words labels waiting n line : ℕ) → counts words labels waiting ≡ refusal n line → B
counts-no-refusal words labels waiting n line e = absurd (let z : ◌≡◌ {A = ℕ} 0 1 = cc in omega arith)

fault : Refusal → ℕ → Fault
fault r line = record { refusal = r; line = line }

pub assembled-one : (a b : Result Totals Fault) → reported a ≡ reported b → a ≡ b
unfolding fault
assembled-one (Ok a) (Ok b) e = ap Ok (counts-one a b e)
assembled-one (Ok a) (Err f) e = counts-no-refusal a.words a.labels a.waiting (number_of f.refusal) f.line e
assembled-one (Err f) (Ok a) e = counts-no-refusal a.words a.labels a.waiting (number_of f.refusal) f.line (sym e)
assembled-one (Err f) (Err g) e =
    ap (λ r. Err (fault r f.line)) (number-one f.refusal g.refusal (refusal-numbers (number_of f.refusal) (number_of g.refusal) f.line g.line e))
    ∙ ap (λ line. Err (fault g.refusal line)) (refusal-lines (number_of f.refusal) (number_of g.refusal) f.line g.line e)

-- the line that is this item
back : Item → Line
back skip = Line.Skip
back (label start size) = Line.Label start size
back (says i) = Line.Says i
back (refers r start size) = Line.Refers r start size

back-of : (l : Line) → back (item_of l) ≡ l
unfolding back
back-of Line.Skip = refl
back-of (Line.Label start size) = refl
back-of (Line.Says i) = refl
back-of (Line.Refers r start size) = refl

pub read_one : (a b : Result Line Refusal) → told_item a ≡ told_item b → a ≡ b
read_one (Ok l) (Ok m) e = ap Ok (sym (back-of l) ∙ ap back (is_one (item_of l) (item_of m) e) ∙ back-of m)
read_one (Ok l) (Err q) e = is-not-no (item_of l) (number_of q) e
read_one (Err r) (Ok m) e = is-not-no (item_of m) (number_of r) (sym e)
read_one (Err r) (Err q) e = ap Err (number-one r q (no_one (number_of r) (number_of q) e))
