-- The two choices in the lines of a program, each by its test: a label line before an instruction's line or none, and that line plain or
-- one that refers. Assumes nothing.
use Prim.Native.Nat.{ℕ, ◌+◌}
use mathlib.Core.Path.{◌≡◌, refl}
use mathlib.Core.Bool.{Bool, true, false}
use mathlib.Core.List.{List, ◌∷◌}
use Rattle.std.specs.Prelude.{Option, Some, None}
use Rattle.base.specs.Choice.{cond}
use Rattle.base.specs.Words.{doubled}
use Rattle.instruction.specs.declared.Instruction.{Instruction}
use Rattle.parser.specs.declared.Reference.{Reference}
use Rattle.source.specs.declared.aims.Aim.{Aim}
use Rattle.source.specs.Source.{plain_line, to, aim_of, inside, refer_line, label_line, line_by, line_of, lines_of}
use Rattle.source.specs.Promises.{refers}

pub line-cases : (P : List ℕ → ℕ → Type 0) (n : ℕ) (i : Instruction) → P (plain_line i) 0 →
    ((r : Reference) (a : ℕ) → aim_of i ≡ to r a → inside n a ≡ true → P (refer_line r a) 1) → P (line_of n i) (refers n (aim_of i))
line-cases P n i plain refer = go (aim_of i) refl
  where
    go : (x : Option Aim) → aim_of i ≡ x → P (line_by n i x) (refers n x)
    go None e = plain
    go (Some x) e = pick (inside n x.address) refl
      where
        pick : (t : Bool) → inside n x.address ≡ t → P (cond t (refer_line x.reference x.address) (plain_line i)) (cond t 1 0)
        pick true q = refer x.reference x.address e q
        pick false q = plain

module _ (P : List (List ℕ) → Type 0) (used : ℕ → Bool) (n k : ℕ) (i : Instruction) (xs : List Instruction) where
  pub label-cases : (used (doubled k) ≡ true → P (label_line (doubled k) ∷ line_of n i ∷ lines_of used n (k + 1) xs)) →
      (used (doubled k) ≡ false → P (line_of n i ∷ lines_of used n (k + 1) xs)) → P (lines_of used n k (i ∷ xs))
  label-cases labelled bare = go (used (doubled k)) refl
    where
      go : (t : Bool) → used (doubled k) ≡ t → P (cond t (label_line (doubled k) ∷ line_of n i ∷ lines_of used n (k + 1) xs) (line_of n i ∷ lines_of used n (k + 1) xs))
      go true e = labelled e
      go false e = bare e
