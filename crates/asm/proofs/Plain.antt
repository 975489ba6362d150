-- Strict assembly is plain assembly but for 30 and 32: a word is the same or is refused so, and then a line, and all lines.
-- Assumes nothing.
use Prim.Native.Nat.{ℕ, ◌+◌}
use mathlib.Core.Path.{◌≡◌, refl, ap}
use mathlib.Core.Bool.{Bool, true, false, not}
use mathlib.Core.List.{List, [], ◌∷◌}
use mathlib.Core.Logic.{◌⊎◌, inl, inr}
use lib.Dec.{eqb}
use lib.ListN.{length, set}
use Rattle.base.specs.Choice.{cond}
use Rattle.base.specs.Told.{Told, is, no, ◌>>=◌}
use Rattle.base.specs.Words.{doubled}
use Rattle.instruction.specs.declared.Instruction.{Instruction}
use Rattle.instruction.specs.Encode.{encode}
use Rattle.instruction.specs.Fits.{fits, decodable}
use Rattle.text.specs.Lines.{lines, foreign_line}
use Rattle.parser.specs.declared.Reference.{Reference}
use Rattle.parser.specs.References.{resolved}
use Rattle.labels.specs.declared.Label.{Label}
use Rattle.labels.specs.declared.Open.{Open}
use Rattle.labels.specs.declared.Found.{Found}
use Rattle.std.specs.Prelude.{Option, Some, None}
use Rattle.labels.specs.Labels.{names, find, label}
use Rattle.asm.specs.Words.{strict_order, strict_word, word_of, add_word, add_instruction}
use Rattle.asm.specs.Labels.{part, define, Patched, keep, patch}
use Rattle.asm.specs.Reading.{Item, read}
use Rattle.asm.specs.Reading as Reading
use Rattle.asm.specs.Strict.{AsPlain, StrictPlain}
use Rattle.asm.specs.Work.{Task, task, Work, work, nothing, with_words, says, opens, refers_to, references, labelled, turn}
use Rattle.asm.specs.Assemble.{Outcome, refused, next_line, assemble_from, assemble}

-- the first is the second, or is refused with 30 or 32
abbrev Alike : {A : Type 0} → Told A → Told A → Type 0
Alike x y = (x ≡ y) ⊎ ((x ≡ no 30) ⊎ (x ≡ no 32))

then-alike : {A B : Type 0} (x y : Told A) (f g : A → Told B) → Alike x y → ((a : A) → Alike (f a) (g a)) → Alike (x >>= f) (y >>= g)
then-alike {A} {B} x y f g (inl e) k = rw e (go y)
  where
    go : (z : Told A) → Alike (z >>= f) (z >>= g)
    go (is a) = k a
    go (no n) = inl refl
then-alike x y f g (inr (inl e)) k = inr (inl (ap (λ z. ◌>>=◌ z f) e))
then-alike x y f g (inr (inr e)) k = inr (inr (ap (λ z. ◌>>=◌ z f) e))

word-alike : (i : Instruction) → Alike (word_of true i) (word_of false i)
unfolding word_of strict_word strict_order
word-alike i = go (fits i) (decodable i)
  where
    go : (t u : Bool) → Alike (cond (not t) (no 30) (cond (not u) (no 32) (is (encode i)))) (is (encode i))
    go true true = inl refl
    go true false = inr (inr refl)
    go false u = inr (inl refl)

patch-alike : (text name : List ℕ) (a : ℕ) (waiting : List Open) (words : List ℕ) →
    Alike (patch true text name a waiting words) (patch false text name a waiting words)
unfolding patch
patch-alike text name a [] words = inl refl
patch-alike text name a (o ∷ waiting) words =
    go (names text o.place o.length name) (λ w. patch-alike text name a waiting (set words o.word.0 w)) (patch-alike text name a waiting words)
  where
    then : Bool → ℕ → Told Patched
    then strict w = patch strict text name a waiting (set words o.word.0 w)

    later : Bool → Told Patched
    later strict = patch strict text name a waiting words

    go : (t : Bool) → ((w : ℕ) → Alike (then true w) (then false w)) → Alike (later true) (later false) →
        Alike (cond t (◌>>=◌ (word_of true (resolved o.reference a)) (then true)) (◌>>=◌ (later true) (λ p. is (keep o p))))
        (cond t (◌>>=◌ (word_of false (resolved o.reference a)) (then false)) (◌>>=◌ (later false) (λ p. is (keep o p))))
    go true k h =
        then-alike (word_of true (resolved o.reference a)) (word_of false (resolved o.reference a)) (then true) (then false) (word-alike (resolved o.reference a)) k
    go false k h = then-alike (later true) (later false) (λ p. is (keep o p)) (λ p. is (keep o p)) h (λ p. inl refl)

module _ (text : List ℕ) (room labels : ℕ) where
  abbrev ruled : Bool → Task
  ruled strict = task strict text room labels

  -- ---- a line

  says-alike : (i : Instruction) (w : Work) → Alike (says (ruled true) i w) (says (ruled false) i w)
  unfolding says add_instruction
  says-alike i w =
      let added : Bool → Told (List ℕ) = λ strict. add_instruction strict room i w.words in
      let next : List ℕ → Told Work = λ words. is (with_words w words) in
      let add : ℕ → Told (List ℕ) = λ x. add_word room x w.words in
      then-alike (added true) (added false) next next (then-alike (word_of true i) (word_of false i) add add (word-alike i) (λ x. inl refl)) (λ words. inl refl)

  references-alike : (r : Reference) (place size : ℕ) (w : Work) → Alike (references (ruled true) r place size w) (references (ruled false) r place size w)
  unfolding references opens
  references-alike r place size w = go (find text (part text place size) w.labels)
    where
      go : (f : Option Found) → Alike (refers_to (ruled true) r place size w f) (refers_to (ruled false) r place size w f)
      go (Some f) = says-alike (resolved r f.address) w
      go None = inl refl

  label-alike : (place size : ℕ) (w : Work) → Alike (labelled (ruled true) place size w) (labelled (ruled false) place size w)
  unfolding labelled
  label-alike place size w =
      let l = label place size (doubled (length w.words)) in
      let patches : Bool → Told Patched = λ strict. patch strict text (part text place size) l.address w.waiting w.words in
      let made : List Label → Patched → Told Work = λ ls p. is (work p.words ls p.waiting) in
      let next : Bool → List Label → Told Work = λ strict ls. ◌>>=◌ (patches strict) (made ls) in
      then-alike (define text labels l w.labels) (define text labels l w.labels) (next true) (next false) (inl refl)
      (λ ls. then-alike (patches true) (patches false) (made ls) (made ls) (patch-alike text (part text place size) l.address w.waiting w.words) (λ p. inl refl))

  turn-alike : (at : ℕ) (item : Told Item) (w : Work) → Alike (turn (ruled true) at item w) (turn (ruled false) at item w)
  unfolding turn
  turn-alike at (is Reading.skip) w = inl refl
  turn-alike at (is (Reading.label start size)) w = label-alike (at + start) size w
  turn-alike at (is (Reading.says i)) w = says-alike i w
  turn-alike at (is (Reading.refers r start size)) w = references-alike r (at + start) size w
  turn-alike at (no n) w = inl refl

  -- ---- all lines

  next-alike : (line : ℕ) (x y : Told Work) (f g : Work → Outcome) → Alike x y → ((w : Work) → AsPlain (f w) (g w)) → AsPlain (next_line line x f) (next_line line y g)
  next-alike line x y f g (inl e) k = rw e (go y)
    where
      go : (z : Told Work) → AsPlain (next_line line z f) (next_line line z g)
      go (is w) = k w
      go (no n) = inl refl
  next-alike line x y f g (inr (inl e)) k = inr (line, inl (ap (λ z. next_line line z f) e))
  next-alike line x y f g (inr (inr e)) k = inr (line, inr (ap (λ z. next_line line z f) e))

  lines-alike : (ls : List (List ℕ)) (at line : ℕ) (w : Work) → AsPlain (assemble_from (ruled true) ls at line w) (assemble_from (ruled false) ls at line w)
  lines-alike [] at line w = inl refl
  lines-alike (l ∷ ls) at line w =
      let rest : Bool → Work → Outcome = λ strict. assemble_from (ruled strict) ls (at + length l + 1) (line + 1) in
      next-alike (line + 1) (turn (ruled true) at (read l) w) (turn (ruled false) at (read l) w) (rest true) (rest false) (turn-alike at (read l) w)
      (lines-alike ls (at + length l + 1) (line + 1))

pub strict-plain : StrictPlain
unfolding assemble
strict-plain text room labels = go (eqb (foreign_line 1 text) 0)
  where
    from : Bool → Outcome
    from strict = assemble_from (task strict text room labels) (lines text) 0 0 nothing

    go : (b : Bool) → AsPlain (cond b (from true) (refused 26 (foreign_line 1 text))) (cond b (from false) (refused 26 (foreign_line 1 text)))
    go true = lines-alike text room labels (lines text) 0 0 nothing
    go false = inl refl
