-- An entry names what stands where it says, if all of it is within the text. Assumes nothing.
use Prim.Native.Nat.{ℕ, ◌+◌, ◌≤◌, ◌<◌}
use mathlib.Core.Path.{◌≡◌, refl, sym, ap, ◌∙◌}
use mathlib.Core.Bool.{Bool, true, false}
use mathlib.Core.List.{List}
use native.Mathlib.Omega.{arith}
use lib.Dec.{leb}
use lib.ListN.{length, take, drop, length-drop}
use lib.Seq.{length-take-le}
use borrow.Author.Tests.{lt-leb, le-leb, leb-true, leb-false}
use Rattle.base.specs.Choice.{cond}
use Rattle.base.specs.Bytes.{same}
use Rattle.base.proofs.SameLaws.{same-lengths, same-equal}
use Rattle.labels.specs.Labels.{names}

module _ (text name : List ℕ) (place size : ℕ) where
  -- what the definition says, by its test
  abbrev choice : Bool → Bool
  choice within = cond within (same (take size (drop place text)) name) false

  pub names-past : length text < place + size → names text place size name ≡ false
  unfolding names
  names-past h = ap choice (lt-leb (place + size) (length text) h)

  pub names-within : place + size ≤ length text → names text place size name ≡ same (take size (drop place text)) name
  unfolding names
  names-within h = ap choice (le-leb (place + size) (length text) h)

  part : place + size ≤ length text → length (take size (drop place text)) ≡ size
  part h = let l : size ≤ length (drop place text) = omega (arith, length-drop place text) in length-take-le size (drop place text) l

  -- a name of another length is another name
  pub names-other : (size ≡ length name → ⊥) → names text place size name ≡ false
  names-other n = go (leb (place + size) (length text)) refl
    where
      go : (t : Bool) → leb (place + size) (length text) ≡ t → names text place size name ≡ false
      go true q =
          let h : place + size ≤ length text = leb-true _ _ q in
          names-within h ∙ same-lengths (take size (drop place text)) name (λ e. n (sym (part h) ∙ e))
      go false q = names-past (leb-false _ _ q)

  -- what an entry names is what stands there
  pub names-part : names text place size name ≡ true → take size (drop place text) ≡ name
  names-part e = go (leb (place + size) (length text)) refl
    where
      go : (t : Bool) → leb (place + size) (length text) ≡ t → take size (drop place text) ≡ name
      go true q = same-equal (take size (drop place text)) name (sym (names-within (leb-true _ _ q)) ∙ e)
      go false q = absurd (let z : false ≡ true = sym (names-past (leb-false _ _ q)) ∙ e in let y : ◌≡◌ {A = ℕ} 0 1 = cc in omega arith)
