-- Patching at a definition does to the words and the open references what the definition does to the list of slots: the words
-- before those looked at stay, and each open reference stands at its own word. Assumes nothing.
use Prim.Native.Nat.{ℕ, suc}
use mathlib.Core.Path.{◌≡◌, sym, ap, ◌∙◌}
use mathlib.Core.Bool.{Bool, true, false}
use mathlib.Core.List.{List, [], ◌∷◌, ◌++◌, map}
use native.Mathlib.Omega.{arith}
use lib.ListN.{length, set, length-append}
use lib.Seq.{append_snoc, set_at}
use Rattle.base.specs.Choice.{cond}
use Rattle.base.specs.Told.{is, ◌>>=◌}
use Rattle.base.proofs.ToldLaws.{is_one}
use Rattle.instruction.specs.Encode.{encode}
use Rattle.parser.specs.declared.Reference.{Reference}
use Rattle.parser.specs.References.{resolved}
use Rattle.labels.specs.declared.Open.{Open}
use Rattle.labels.specs.Labels.{names}
use Rattle.labels.specs.Opens.{open_to}
use Rattle.asm.specs.Words.{word_of}
use Rattle.asm.specs.Labels.{Patched, keep, patch}
use Rattle.asm.proofs.Accepted.{both, allowed}
use Rattle.asm.proofs.Slots.{Slot, done, waits, slot_word, open_from, becomes, AllGood}

one_more : (front : List ℕ) (x i : ℕ) → length front ≡ i → length (front ++ x ∷ []) ≡ suc i
one_more front x i h = omega (arith, length-append front (x ∷ []))

module _ (strict : Bool) (text name : List ℕ) (a n : ℕ) where
  -- the words after `front`, and the references open from instruction i on, are those of the slots
  pub record Shows (i : ℕ) (front : List ℕ) (slots : List Slot) (p : Patched) : Type 0 where
    pub words : p.words ≡ front ++ map slot_word slots
    pub waiting : p.waiting ≡ open_from i slots
    pub good : AllGood strict n slots

  abbrev pub Patches : ℕ → List Slot → Type 0
  Patches i slots = (front : List ℕ) (p : Patched) → length front ≡ i → patch strict text name a (open_from i slots) (front ++ map slot_word slots) ≡ is p →
      Shows i front (map (becomes text name a) slots) p

  waited : (r : Reference) (place size i : ℕ) (slots : List Slot) → AllGood strict n (waits r place size ∷ slots) → Patches (suc i) slots → Patches i (waits r place size ∷ slots)
  unfolding patch
  waited r place size i slots g ih front p h e = go (names text place size name) e
    where
      rest : List ℕ
      rest = map slot_word slots

      go : (t : Bool) →
          cond t
          (◌>>=◌ (word_of strict (resolved r a)) (λ w. patch strict text name a (open_from (suc i) slots) (set (front ++ 0 ∷ rest) i w)))
          (◌>>=◌ (patch strict text name a (open_from (suc i) slots) (front ++ 0 ∷ rest)) (λ p. is (keep (open_to place size i r) p))) ≡ is p →
          Shows i front (cond t (done (resolved r a)) (waits r place size) ∷ map (becomes text name a) slots) p
      go true e =
          let u = both (word_of strict (resolved r a)) (λ w. patch strict text name a (open_from (suc i) slots) (set (front ++ 0 ∷ rest) i w)) p e in
          let w : ℕ = u.value in
          let c = allowed strict (resolved r a) w u.first in
          let f : set (front ++ 0 ∷ rest) i w ≡ front ++ w ∷ [] ++ rest = set_at front 0 rest w i h ∙ sym (append_snoc front w rest) in
          let s = ih (front ++ w ∷ []) p (one_more front w i h) (ap (patch strict text name a (open_from (suc i) slots)) (sym f) ∙ u.next) in
          record {
            words =
                s.words ∙ append_snoc front w (map slot_word (map (becomes text name a) slots)) ∙
                ap (λ (x : ℕ). front ++ x ∷ map slot_word (map (becomes text name a) slots)) c.0;
            waiting = s.waiting;
            good = (c.1, s.good);
          }
      go false e =
          let o = open_to place size i r in
          let u = both (patch strict text name a (open_from (suc i) slots) (front ++ 0 ∷ rest)) (λ p. is (keep o p)) p e in
          let d : p ≡ keep o u.value = sym (is_one (keep o u.value) p u.next) in
          let s = ih (front ++ 0 ∷ []) u.value (one_more front 0 i h) (ap (patch strict text name a (open_from (suc i) slots)) (append_snoc front 0 rest) ∙ u.first) in
          record {
            words = ap (λ (x : Patched). x.words) d ∙ s.words ∙ append_snoc front 0 (map slot_word (map (becomes text name a) slots));
            waiting = ap (λ (x : Patched). x.waiting) d ∙ ap (λ (x : List Open). o ∷ x) s.waiting;
            good = (g.0, s.good);
          }

  pub patched : (slots : List Slot) (i : ℕ) → AllGood strict n slots → Patches i slots
  unfolding patch
  patched [] i g front p h e =
      let d : p ≡ record { words = front ++ []; waiting = [] } = sym (is_one (record { words = front ++ []; waiting = [] }) p e) in
      record { words = ap (λ (x : Patched). x.words) d; waiting = ap (λ (x : Patched). x.waiting) d; good = tt }
  patched (done j ∷ slots) i g front p h e =
      let s =
      patched slots (suc i) g.1 (front ++ encode j ∷ []) p (one_more front (encode j) i h)
      (ap (patch strict text name a (open_from (suc i) slots)) (append_snoc front (encode j) (map slot_word slots)) ∙ e) in
      record { words = s.words ∙ append_snoc front (encode j) (map slot_word (map (becomes text name a) slots)); waiting = s.waiting; good = (g.0, s.good) }
  patched (waits r place size ∷ slots) i g front p h e = waited r place size i slots g (patched slots (suc i) g.1) front p h e
