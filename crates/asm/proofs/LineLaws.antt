-- A whole text: 26 or the fold over its lines, which at the text's end is the work so far; equal rooms make one task. Assumes nothing.
use Prim.Native.Nat.{◌≤◌, ℕ}
use lib.ListN.{drop, drop_of_length-le, length}
use mathlib.Core.Bool.{Bool}
use mathlib.Core.List.{List}
use mathlib.Core.Path.{◌∙◌, ◌≡◌, ap, refl, sym}
use Rattle.asm.specs.Assemble.{accepted, ascii, assemble, assemble_from}
use Rattle.asm.specs.Work.{Task, Work, task}
use Rattle.text.specs.Lines.{foreign_line, lines}

pub assemble-is : (t : Task) → assemble t ≡ ascii t (foreign_line 1 t.text)
unfolding assemble
assemble-is t = refl

pub lines_end : (t : Task) (text : List ℕ) (at line : ℕ) (w : Work) → length text ≤ at → accepted w ≡ assemble_from t (lines (drop at text)) at line w
lines_end t text at line w h = sym (ap (λ (l : List ℕ). assemble_from t (lines l) at line w) (drop_of_length-le text h))

pub task-same : (strict : Bool) (text : List ℕ) (room room' labels labels' : ℕ) → room ≡ room' → labels ≡ labels' → task strict text room labels ≡ task strict text room' labels'
task-same strict text room room' labels labels' e q = ap (λ (n : ℕ). task strict text n labels) e ∙ ap (λ (n : ℕ). task strict text room' n) q
