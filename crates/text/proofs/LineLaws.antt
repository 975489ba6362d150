-- Lines: the first ends where the first byte 10 stands, and the others follow it.
use Prim.Native.Nat.{◌+◌, ◌-◌, ◌<◌, suc, ℕ}
use lib.Dec.{eqb}
use lib.ListN.{drop, length, length-drop, take}
use lib.Seq.{drop-drop}
use mathlib.Core.Bool.{Bool, false, true}
use mathlib.Core.List.{List, [], ◌∷◌}
use mathlib.Core.Path.{◌∙◌, ◌≡◌, refl}
use native.Mathlib.Numerals.{add-one}
use native.Mathlib.Omega.{arith}
use Rattle.text.specs.Lines.{lines, not_end}
use Rattle.text.specs.Parts.{run}

line_first : (xs : List ℕ) → 0 < length xs → lines xs ≡ take (run not_end xs) xs ∷ lines (drop (suc (run not_end xs)) xs)
line_first [] h = absurd (omega arith)
line_first (x ∷ xs) h = cases xs (eqb x 10) refl (line_first xs)
  where
    cases : (ys : List ℕ) (t : Bool) → eqb x 10 ≡ t → (0 < length ys → lines ys ≡ take (run not_end ys) ys ∷ lines (drop (suc (run not_end ys)) ys)) →
        lines (x ∷ ys) ≡ take (run not_end (x ∷ ys)) (x ∷ ys) ∷ lines (drop (suc (run not_end (x ∷ ys))) (x ∷ ys))
    cases ys true q ih = rw q
    cases [] false q ih = rw q
    cases (y ∷ ys) false q ih = rw (q, ih (omega arith))

pub line-at : (s : List ℕ) (i e : ℕ) → i < length s → e ≡ i + run not_end (drop i s) → lines (drop i s) ≡ take (e - i) (drop i s) ∷ lines (drop (e + 1) s)
line-at s i e h q =
    let n = run not_end (drop i s) in
    let l : 0 < length (drop i s) = omega (arith, length-drop i s) in
    let a : e - i ≡ n = omega arith in
    let b : i + suc n ≡ e + 1 = omega (arith, add-one n) in
    line_first (drop i s) l ∙
    rw (drop-drop (suc n) i s, b, a)
