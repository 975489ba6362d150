-- Defining a label, in the first entries of a table: the entry with its name is overwritten, else one is added. An answer is a
-- count of the first entries. Assumes nothing.
use Prim.Native.Nat.{◌+◌, ◌≤◌, ℕ}
use borrow.Author.Tests.{ltb-true}
use lib.Dec.{ltb}
use lib.ListN.{length, set, take}
use lib.Seq.{length-take-le}
use mathlib.Core.Bool.{Bool, false, true}
use mathlib.Core.List.{List, [], ◌++◌, ◌∷◌}
use mathlib.Core.Path.{◌∙◌, ◌≡◌, ap, refl}
use native.Mathlib.Omega.{arith}
use Rattle.std.specs.Prelude.{Option, Some, None, Result, Ok, Err}
use Rattle.asm.specs.Labels.{define, part}
use Rattle.asm.specs.Views.{slot_of, told_first, used_of}
use Rattle.base.proofs.ToldLaws.{is-not-no, is_one}
use Rattle.base.specs.Choice.{cond}
use Rattle.base.specs.Told.{Told, is, no, told, ◌>>=◌}
use Rattle.base.specs.declared.refusals.Refusal.{Refusal}
use Rattle.labels.proofs.ListLaws.{take-set, take_snoc}
use Rattle.labels.specs.Labels.{find}
use Rattle.labels.specs.declared.Label.{Label}
use Rattle.labels.specs.declared.Found.{Found}

first-told : (d : Result ℕ Refusal) (labels : List Label) → told_first d labels ≡ ◌>>=◌ (told d) (λ n. is (take n labels))
first-told (Ok n) labels = refl
first-told (Err r) labels = refl

module _ (count most : ℕ) (h : count ≤ most) where
  pub define-count : (f : Option Found) (n : ℕ) → is n ≡ used_of f count most → n ≤ most
  define-count (Some f) n u = omega (arith, h, is_one n count u)
  define-count None n u = go (ltb count most) refl u
    where
      go : (t : Bool) → ltb count most ≡ t → is n ≡ cond t (is (count + 1)) (no 27) → n ≤ most
      go true q v = omega (arith, is_one n (count + 1) v, ltb-true count most q)
      go false q v = is-not-no n 27 v

  -- in a table of `most` entries, of which the first `count` are used
  pub define-used : (text : List ℕ) (labels : List Label) (l : Label) → length labels ≡ most →
      (f : Option Found) → f ≡ find text (part text l.place l.length) (take count labels) → (d : Result ℕ Refusal) → told d ≡ used_of f count most →
      told_first d (set labels (slot_of f count) l) ≡ define text most l (take count labels)
  unfolding define
  define-used text labels l room (Some f) e d u =
      first-told d (set labels f.index l) ∙ ap (λ (x : Told ℕ). ◌>>=◌ x (λ n. is (take n (set labels f.index l)))) u ∙ ap is (take-set count labels f.index l) ∙ rw (← e)
  define-used text labels l room None e d u =
      let n : length (take count labels) ≡ count = length-take-le count labels (omega (arith, room, h)) in
      first-told d (set labels count l) ∙ ap (λ (x : Told ℕ). ◌>>=◌ x (λ k. is (take k (set labels count l)))) u ∙ go (ltb count most) refl ∙ rw (← e, n)
    where
      go : (t : Bool) → ltb count most ≡ t →
          ◌>>=◌ (cond t (is (count + 1)) (no 27)) (λ k. is (take k (set labels count l))) ≡ cond t (is (take count labels ++ (l ∷ []))) (no 27)
      go true q = ap is (take_snoc labels count l (omega (arith, room, ltb-true count most q)))
      go false q = refl
