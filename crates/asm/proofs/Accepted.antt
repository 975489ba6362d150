-- What an accepted step has done: of two steps each gave a value, and of a choice between a value and a refusal it is the
-- value. Assumes nothing.
use Prim.Native.Nat.{ℕ}
use mathlib.Core.Path.{◌≡◌, refl, sym, ap, ◌∙◌}
use mathlib.Core.Bool.{Bool, true, false, ◌&&◌}
use mathlib.Core.List.{List, [], ◌∷◌, ◌++◌}
use lib.Dec.{ltb}
use lib.ListN.{length}
use borrow.Author.Tests.{not-false}
use Rattle.base.specs.Choice.{cond}
use Rattle.base.specs.Told.{Told, is, no, ◌>>=◌}
use Rattle.base.proofs.ToldLaws.{is-not-no, is_one}
use Rattle.base.proofs.OrderLaws.{passed-value}
use Rattle.instruction.specs.declared.Instruction.{Instruction}
use Rattle.instruction.specs.Encode.{encode}
use Rattle.instruction.specs.Fits.{fits, decodable}
use Rattle.labels.specs.declared.Label.{Label}
use Rattle.labels.specs.declared.Open.{Open}
use Rattle.asm.specs.Words.{strict_order, strict_word, word_of, add_word, add_instruction}
use Rattle.asm.specs.Labels.{part, define, add_open, Patched, patch}
use Rattle.asm.specs.Work.{Task, Work, with_words, says, opens, labels_at}

module _ {A B : Type 0} where
  -- the first gave a value, of which the second gave b
  pub record Both (x : Told A) (f : A → Told B) (b : B) : Type 0 where
    pub value : A
    pub first : x ≡ is value
    pub next : f value ≡ is b

  pub both : (x : Told A) (f : A → Told B) (b : B) → ◌>>=◌ x f ≡ is b → Both x f b
  both (is a) f b e = record { value = a; first = refl; next = e }
  both (no n) f b e = is-not-no b n (sym e)

pub chosen : {A : Type 0} (t : Bool) (a b : A) (n : ℕ) → cond t (is a) (no n) ≡ is b → b ≡ a
chosen true a b n e = sym (is_one a b e)
chosen false a b n e = is-not-no b n (sym e)

-- ---- words

word-is : (strict : Bool) (i : Instruction) (w : ℕ) → word_of strict i ≡ is w → w ≡ encode i
unfolding word_of strict_word
word-is true i w e = (passed-value (strict_order i) (encode i) w e).1
word-is false i w e = sym (is_one (encode i) w e)

-- the instruction has a word by the rule: it is the encoder's
abbrev pub Allowed : Bool → Instruction → Type 0
Allowed strict i = word_of strict i ≡ is (encode i)

pub allowed : (strict : Bool) (i : Instruction) (w : ℕ) → word_of strict i ≡ is w → (w ≡ encode i) × Allowed strict i
allowed strict i w e =
    let h = word-is strict i w e in
    (h, e ∙ ap is h)

-- strict: it passed 30 and 32
pub allowed-said : (i : Instruction) → Allowed true i → (fits i ≡ true) × (decodable i ≡ true)
unfolding word_of strict_word strict_order
allowed-said i e =
    let p = (passed-value (strict_order i) (encode i) (encode i) e).0 in
    (not-false (fits i) p.0, not-false (decodable i) p.1.0)

word-added : (room w : ℕ) (words new : List ℕ) → add_word room w words ≡ is new → new ≡ words ++ w ∷ []
unfolding add_word
word-added room w words new e = chosen (ltb (length words) room && ltb (length words) 32767) (words ++ w ∷ []) new 29 e

open-added : (o : Open) (waiting new : List Open) → add_open o waiting ≡ is new → new ≡ waiting ++ o ∷ []
unfolding add_open
open-added o waiting new e = chosen (ltb (length waiting) 512) (waiting ++ o ∷ []) new 28 e

-- ---- what each kind of line does

module _ (t : Task) (w v : Work) where
  pub record Said (i : Instruction) : Type 0 where
    pub words : v.words ≡ w.words ++ encode i ∷ []
    pub labels : v.labels ≡ w.labels
    pub waiting : v.waiting ≡ w.waiting
    pub rule : Allowed t.strict i

  pub said : (i : Instruction) → says t i w ≡ is v → Said i
  unfolding says add_instruction
  said i e =
      let a = both (add_instruction t.strict t.word_room i w.words) (λ words. is (with_words w words)) v e in
      let b = both (word_of t.strict i) (λ x. add_word t.word_room x w.words) a.value a.first in
      let c = allowed t.strict i b.value b.first in
      let d : v ≡ with_words w a.value = sym (is_one (with_words w a.value) v a.next) in
      record {
        words =
            ap (λ (x : Work). x.words) d ∙ word-added t.word_room b.value w.words a.value b.next ∙
            ap (λ (x : ℕ). w.words ++ x ∷ []) c.0;
        labels = ap (λ (x : Work). x.labels) d;
        waiting = ap (λ (x : Work). x.waiting) d;
        rule = c.1;
      }

  pub record Opened (o : Open) : Type 0 where
    pub words : v.words ≡ w.words ++ 0 ∷ []
    pub labels : v.labels ≡ w.labels
    pub waiting : v.waiting ≡ w.waiting ++ o ∷ []

  pub opened : (o : Open) → opens t o w ≡ is v → Opened o
  unfolding opens
  opened o e =
      let made : List ℕ → List Open → Work = λ words waiting. record { words = words; labels = w.labels; waiting = waiting } in
      let a = both (add_word t.word_room 0 w.words) (λ words. ◌>>=◌ (add_open o w.waiting) (λ waiting. is (made words waiting))) v e in
      let b = both (add_open o w.waiting) (λ waiting. is (made a.value waiting)) v a.next in
      let d : v ≡ made a.value b.value = sym (is_one (made a.value b.value) v b.next) in
      record {
        words = ap (λ (x : Work). x.words) d ∙ word-added t.word_room 0 w.words a.value a.first;
        labels = ap (λ (x : Work). x.labels) d;
        waiting = ap (λ (x : Work). x.waiting) d ∙ open-added o w.waiting b.value b.first;
      }

  pub record Labelled (l : Label) : Type 0 where
    pub patches : Patched
    pub defines : define t.text t.label_room l w.labels ≡ is v.labels
    pub patching : patch t.strict t.text (part t.text l.place l.length) l.address w.waiting w.words ≡ is patches
    pub words : v.words ≡ patches.words
    pub waiting : v.waiting ≡ patches.waiting

  pub labelling : (l : Label) → labels_at t l w ≡ is v → Labelled l
  labelling l e =
      let made : List Label → Patched → Work = λ labels p. record { words = p.words; labels = labels; waiting = p.waiting } in
      let after : Told Patched = patch t.strict t.text (part t.text l.place l.length) l.address w.waiting w.words in
      let a = both (define t.text t.label_room l w.labels) (λ labels. ◌>>=◌ after (λ p. is (made labels p))) v e in
      let b = both after (λ p. is (made a.value p)) v a.next in
      let d : v ≡ made a.value b.value = sym (is_one (made a.value b.value) v b.next) in
      record {
        patches = b.value;
        defines = a.first ∙ ap (λ (x : Work). is x.labels) (sym d);
        patching = b.first;
        words = ap (λ (x : Work). x.words) d;
        waiting = ap (λ (x : Work). x.waiting) d;
      }
