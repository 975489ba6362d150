-- The place of the first entry with the name is what a search finds: by induction, entry after entry. Assumes nothing.
use Prim.Native.Nat.{ℕ, suc, ◌+◌}
use mathlib.Core.Path.{◌≡◌, refl, sym, ap, ◌∙◌}
use mathlib.Core.Bool.{Bool, true, false, not}
use mathlib.Core.List.{List, [], ◌∷◌}
use borrow.Author.Tests.{lt-ltb}
use native.Mathlib.Nat.{zero-add}
use native.Mathlib.Omega.{arith}
use lib.Dec.{ltb}
use lib.Seq.{get_or-take}
use lib.ListN.{length, length-take, get_or, take}
use Rattle.std.specs.Prelude.{Option, Some, None, nat_lt}
use Rattle.std.specs.List.{position, position_or_len}
use Rattle.std.proofs.lemmas.List.Quantifiers.{position-Some}
use Rattle.base.proofs.Tests.{ltb-same}
use Rattle.base.specs.Choice.{cond}
use Rattle.labels.specs.declared.Label.{Label}
use Rattle.labels.specs.declared.Found.{Found}
use Rattle.labels.specs.Labels.{no_label, is_named, found_at, find_from, find}

module _ (text name : List ℕ) where
  -- entry `at` of these, the first of which is entry i
  abbrev found_in : ℕ → List Label → Option ℕ → Option Found
  found_in i ls None = None
  found_in i ls (Some at) = Some (found_at (i + at) (get_or ls at no_label).address)

  placed : (ls : List Label) (i : ℕ) → find_from text name i ls ≡ found_in i ls (position (is_named text name) ls)
  unfolding find_from
  placed [] i = refl
  placed (l ∷ ls) i = go (is_named text name l) (placed ls (i + 1))
    where
      moved : (k n : ℕ) → found_in (i + 1) ls (cond (nat_lt k n) (Some k) None) ≡ found_in i (l ∷ ls) (cond (nat_lt (1 + k) (suc n)) (Some (1 + k)) None)
      moved k n = go (ltb k n) ∙ ap (λ (t : Bool). found_in i (l ∷ ls) (cond t (Some (1 + k)) None)) (ltb-same k n (1 + k) (suc n) (λ h. omega (arith, h)) (λ h. omega (arith, h)))
        where
          go : (t : Bool) → found_in (i + 1) ls (cond t (Some k) None) ≡ found_in i (l ∷ ls) (cond t (Some (1 + k)) None)
          go true =
              let e : i + 1 + k ≡ i + (1 + k) = omega arith in
              let q : suc k ≡ 1 + k = omega arith in
              ap (λ (m : ℕ). Some (found_at m (get_or ls k no_label).address)) e ∙ ap (λ (m : ℕ). Some (found_at (i + (1 + k)) (get_or (l ∷ ls) m no_label).address)) q
          go false = refl

      go : (t : Bool) → find_from text name (i + 1) ls ≡ found_in (i + 1) ls (position (is_named text name) ls) →
          cond t (Some (found_at i l.address)) (find_from text name (i + 1) ls)
          ≡ found_in i (l ∷ ls) (cond (nat_lt (cond (not t) (1 + position_or_len (is_named text name) ls) 0) (suc (length ls))) (Some (cond (not t) (1 + position_or_len (is_named text name) ls) 0)) None)
      go true ih =
          let e : i ≡ i + 0 = omega arith in
          rw (lt-ltb 0 (suc (length ls)) (omega arith)) (ap (λ (m : ℕ). Some (found_at m l.address)) e)
      go false ih = ih ∙ moved (position_or_len (is_named text name) ls) (length ls)

  pub place_none : (ls : List Label) → None ≡ position (is_named text name) ls → None ≡ find text name ls
  unfolding find
  place_none ls e = ap (found_in 0 ls) e ∙ sym (placed ls 0)

  -- of the first `count` of a table
  pub place_some : (table : List Label) (count i : ℕ) → Some i ≡ position (is_named text name) (take count table) →
      Some (found_at i (get_or table i no_label).address) ≡ find text name (take count table)
  unfolding find
  place_some table count i e =
      let k = position-Some (is_named text name) (take count table) i no_label (sym e) in
      let same : get_or (take count table) i no_label ≡ get_or table i no_label = get_or-take count table i no_label (omega (arith, k.0, length-take count table)) in
      ap (λ (l : Label). Some (found_at i l.address)) (sym same) ∙ ap (λ (m : ℕ). Some (found_at m (get_or (take count table) i no_label).address)) (sym (zero-add i)) ∙ ap (found_in 0 (take count table)) e ∙ sym (placed (take count table) 0)
