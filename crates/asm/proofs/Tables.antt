-- The label table after any definitions leads a name to its latest: the first entry with the name counts, a new name comes
-- last, and a name that is there keeps its place in the table. Assumes nothing.
use Prim.Native.Nat.{ℕ, zero, suc, ◌+◌, ◌≤◌, ◌<◌}
use mathlib.Core.Path.{◌≡◌, refl, sym, ap, ◌∙◌}
use mathlib.Core.Bool.{Bool, true, false}
use mathlib.Core.List.{List, [], ◌∷◌, ◌++◌}
use native.Mathlib.Nat.{le_of_suc-le-suc, not-suc-le-zero}
use native.Mathlib.Omega.{arith}
use lib.Dec.{ltb}
use lib.ListN.{length, get_or, set}
use Rattle.base.proofs.Tests.{clash}
use Rattle.base.specs.Bytes.{same}
use Rattle.base.specs.Choice.{cond}
use Rattle.base.specs.Told.{Told, is, no}
use Rattle.base.proofs.SameLaws.{same_self, same-equal}
use Rattle.base.proofs.ToldLaws.{is-not-no, is_one}
use Rattle.labels.specs.declared.Label.{Label}
use Rattle.labels.specs.declared.Found.{Found}
use Rattle.std.specs.Prelude.{Option, Some, None}
use Rattle.labels.specs.Labels.{names, is_named, find}
use Rattle.labels.proofs.Laws.{find-lt, find-named, find_first}
use Rattle.labels.proofs.FindLaws.{behind, find_none, find-here, find-behind}
use Rattle.labels.proofs.NameLaws.{names-within, names-part}
use Rattle.asm.specs.Labels.{part, entered, define}
use Rattle.asm.specs.Meaning.{latest, leads_to}
use Rattle.asm.proofs.Accepted.{chosen}

same-swap : (a b : List ℕ) → same a b ≡ same b a
same-swap a b = go (same a b) (same b a) refl refl
  where
    go : (t u : Bool) → same a b ≡ t → same b a ≡ u → t ≡ u
    go true true p q = refl
    go true false p q = sym (ap (λ (x : List ℕ). same b x) (same-equal a b p) ∙ same_self b) ∙ q
    go false true p q = sym p ∙ ap (λ (x : List ℕ). same a x) (same-equal b a q) ∙ same_self a
    go false false p q = refl

module _ (text : List ℕ) where
  -- ---- names in the text

  named_self : (place size : ℕ) → place + size ≤ length text → names text place size (part text place size) ≡ true
  named_self place size h = names-within text (part text place size) place size h ∙ same_self (part text place size)

  -- of two names within the text either can be looked for at the other
  pub names-swap : (p s q z : ℕ) → p + s ≤ length text → q + z ≤ length text → names text p s (part text q z) ≡ names text q z (part text p s)
  names-swap p s q z h k =
      names-within text (part text q z) p s h ∙ same-swap (part text p s) (part text q z) ∙ sym (names-within text (part text p s) q z k)

  -- ---- a search leads to the first entry with the name

  pub found-latest : (name : List ℕ) (ls : List Label) → leads_to ls (find text name ls) ≡ latest text name ls
  found-latest name [] = ap (leads_to []) (find_none text name)
  found-latest name (l ∷ ls) = go (is_named text name l) refl (found-latest name ls)
    where
      later : (f : Option Found) → leads_to (l ∷ ls) (behind f) ≡ leads_to ls f
      later None = refl
      later (Some f) = refl

      go : (t : Bool) → is_named text name l ≡ t → leads_to ls (find text name ls) ≡ latest text name ls →
          leads_to (l ∷ ls) (find text name (l ∷ ls)) ≡ cond (is_named text name l) (is l.address) (latest text name ls)
      go true q ih = ap (leads_to (l ∷ ls)) (find-here text name l ls q) ∙ rw q
      go false q ih = ap (leads_to (l ∷ ls)) (find-behind text name l ls q) ∙ later (find text name ls) ∙ ih ∙ rw q

  -- ---- a definition is the latest of its name

  -- a new entry, of a name that had none
  added : (name : List ℕ) (l : Label) (ls : List Label) → (is_named text name l ≡ true → latest text name ls ≡ no 25) →
      latest text name (ls ++ l ∷ []) ≡ latest text name (l ∷ ls)
  added name l [] k = refl
  added name l (m ∷ ls) k = go (is_named text name m) (is_named text name l) refl k (added name l ls)
    where
      go : (u t : Bool) → is_named text name l ≡ t → (is_named text name l ≡ true → cond u (is m.address) (latest text name ls) ≡ no 25) →
          ((is_named text name l ≡ true → latest text name ls ≡ no 25) → latest text name (ls ++ l ∷ []) ≡ latest text name (l ∷ ls)) →
          cond u (is m.address) (latest text name (ls ++ l ∷ [])) ≡ cond t (is l.address) (cond u (is m.address) (latest text name ls))
      go true true q k ih = is-not-no m.address 25 (k q)
      go true false q k ih = refl
      go false t q k ih = ih k ∙ ap (λ (b : Bool). cond b (is l.address) (latest text name ls)) q

  -- an entry overwritten, the first that had the name
  module _ (name own : List ℕ) (l d : Label) (only : is_named text name l ≡ true → name ≡ own) (has : name ≡ own → is_named text name l ≡ true) where
    replaced : (ls : List Label) (i : ℕ) → i < length ls → is_named text own (get_or ls i d) ≡ true → ((j : ℕ) → j < i → is_named text own (get_or ls j d) ≡ false) →
        latest text name (set ls i l) ≡ latest text name (l ∷ ls)
    replaced [] i h q earlier = absurd (not-suc-le-zero h)
    replaced (m ∷ ls) zero h q earlier = go (is_named text name l) (is_named text name m) refl refl
      where
        go : (t u : Bool) → is_named text name l ≡ t → is_named text name m ≡ u →
            cond t (is l.address) (latest text name ls) ≡ cond t (is l.address) (cond u (is m.address) (latest text name ls))
        go true u e f = refl
        go false true e f =
            let same_name : name ≡ own = sym (names-part text name m.place m.length f) ∙ names-part text own m.place m.length q in
            clash (sym e ∙ has same_name)
        go false false e f = refl
    replaced (m ∷ ls) (suc i) h q earlier = go (is_named text name l) (is_named text name m) refl refl (replaced ls i (le_of_suc-le-suc h) q (λ j k. earlier (suc j) (omega arith)))
      where
        go : (t u : Bool) → is_named text name l ≡ t → is_named text name m ≡ u → latest text name (set ls i l) ≡ latest text name (l ∷ ls) →
            cond u (is m.address) (latest text name (set ls i l)) ≡ cond t (is l.address) (cond u (is m.address) (latest text name ls))
        go true true e f ih = clash (sym (ap (λ (x : List ℕ). is_named text x m) (only e) ∙ earlier 0 (omega arith)) ∙ f)
        go true false e f ih = ih ∙ ap (λ (b : Bool). cond b (is l.address) (latest text name ls)) e
        go false u e f ih =
            ap (λ (x : Told ℕ). cond u (is m.address) x) (ih ∙ ap (λ (b : Bool). cond b (is l.address) (latest text name ls)) e)

  pub defined-latest : (room : ℕ) (l : Label) (ls new : List Label) → l.place + l.length ≤ length text → define text room l ls ≡ is new →
      (name : List ℕ) → latest text name new ≡ latest text name (l ∷ ls)
  unfolding define
  defined-latest room l ls new h e name = go (find text own ls) refl e
    where
      own : List ℕ
      own = part text l.place l.length

      only : is_named text name l ≡ true → name ≡ own
      only q = sym (names-part text name l.place l.length q)

      has : name ≡ own → is_named text name l ≡ true
      has q = ap (λ (x : List ℕ). is_named text x l) q ∙ named_self l.place l.length h

      none : find text own ls ≡ None → latest text own ls ≡ no 25
      none q = sym (found-latest own ls) ∙ ap (leads_to ls) q

      go : (f : Option Found) → find text own ls ≡ f → entered room l ls f ≡ is new → latest text name new ≡ latest text name (l ∷ ls)
      go (Some f) q r =
          ap (latest text name) (sym (is_one (set ls f.index l) new r)) ∙
          replaced name own l l only has ls f.index (find-lt text own ls f.index f.address q) (find-named text own ls f.index f.address q l) (λ j k. find_first text own ls f.index f.address q j l k)
      go None q r =
          ap (latest text name) (chosen (ltb (length ls) room) (ls ++ l ∷ []) new 27 r) ∙
          added name l ls (λ s. ap (λ (x : List ℕ). latest text x ls) (only s) ∙ none q)
