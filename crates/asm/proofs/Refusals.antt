-- With which numbers a line is refused: 20 to 30, rule by rule; and 32 exactly in strict assembly, and of a line that says a CJP to
-- a register. A label line patches jumps to numbers alone, so it never gives 32. Assumes nothing.
use Prim.Native.Nat.{ℕ, ◌+◌}
use mathlib.Core.Path.{◌≡◌, refl, sym, ap, ◌∙◌}
use mathlib.Core.Bool.{Bool, true, false, not, ◌&&◌}
use mathlib.Core.List.{List, [], ◌∷◌, ◌++◌}
use mathlib.Core.Logic.{◌⊎◌, inl, inr}
use native.Mathlib.Omega.{arith}
use lib.Dec.{eqb, ltb}
use lib.ListN.{length, set}
use Rattle.base.specs.Choice.{cond}
use Rattle.base.specs.Told.{Told, is, no, ◌>>=◌}
use Rattle.base.specs.Words.{doubled}
use Rattle.base.proofs.Tests.{clash}
use Rattle.base.proofs.ToldLaws.{Numbered, or-numbered, first-numbered, then-numbered, its-number}
use Rattle.instruction.specs.declared.Instruction.{Instruction}
use Rattle.instruction.specs.Encode.{encode}
use Rattle.instruction.specs.Fits.{fits, decodable}
use Rattle.instruction.proofs.RoundTrip.{register-cjp-only}
use Rattle.text.specs.Parts.{is_blank, run, drop_front, drop_end}
use Rattle.text.specs.Tokens.{tokens}
use Rattle.parser.specs.declared.Reference.{Reference}
use Rattle.parser.specs.declared.Reference.TheVariants as reference
use Rattle.parser.specs.References.{resolved}
use Rattle.parser.specs.Answers.{Meaning}
use Rattle.parser.specs.Answers as Parse
use Rattle.parser.specs.Parse.{parse}
use Rattle.parser.proofs.Laws.{parse-blank}
use Rattle.parser.proofs.NumberLaws.{Fair, parse-fair}
use Rattle.labels.specs.declared.Label.{Label}
use Rattle.labels.specs.declared.Open.{Open}
use Rattle.labels.specs.declared.Found.{Found}
use Rattle.std.specs.Prelude.{Option, Some, None}
use Rattle.labels.specs.Labels.{names, find, label}
use Rattle.labels.specs.Opens.{open_to}
use Rattle.asm.specs.Words.{strict_order, strict_word, word_of, add_word, add_instruction}
use Rattle.asm.specs.Labels.{part, entered, define, add_open, Patched, keep, patch}
use Rattle.asm.specs.Reading.{Item, read_trimmed, name_in, said, read}
use Rattle.asm.specs.Reading as Reading
use Rattle.asm.specs.Strict.{Cjp, StrictRefuses}
use Rattle.asm.specs.Work.{Task, Work, work, with_words, says, opens, refers_to, references, labelled, turn}

-- ---- words

-- plain assembly refuses none, and strict with 30 what decodes back
word-numbered : (strict : Bool) (i : Instruction) → (strict ≡ true → decodable i ≡ true) → Numbered 20 30 (word_of strict i)
unfolding word_of strict_word strict_order
word-numbered true i d = rw (d refl) (first-numbered (not (fits i)) (encode i) 30 20 30 (omega arith, omega arith))
word-numbered false i d = tt

add-numbered : (room w : ℕ) (words : List ℕ) → Numbered 20 30 (add_word room w words)
unfolding add_word
add-numbered room w words =
    or-numbered (ltb (length words) room && ltb (length words) 32767) (words ++ w ∷ []) 29 20 30 (omega arith, omega arith)

-- a reference becomes a jump or a call to a number
resolved-decodable : (r : Reference) (a : ℕ) → decodable (resolved r a) ≡ true
resolved-decodable reference.Jmp a = refl
resolved-decodable reference.CondJmp a = refl
resolved-decodable reference.Call a = refl

patch-numbered : (strict : Bool) (text name : List ℕ) (a : ℕ) (waiting : List Open) (words : List ℕ) → Numbered 20 30 (patch strict text name a waiting words)
unfolding patch
patch-numbered strict text name a [] words = tt
patch-numbered strict text name a (o ∷ waiting) words =
    go (names text o.place o.length name) (λ w. patch-numbered strict text name a waiting (set words o.word.0 w)) (patch-numbered strict text name a waiting words)
  where
    then : ℕ → Told Patched
    then w = patch strict text name a waiting (set words o.word.0 w)

    go : (t : Bool) → ((w : ℕ) → Numbered 20 30 (then w)) → Numbered 20 30 (patch strict text name a waiting words) →
        Numbered 20 30 (cond t (◌>>=◌ (word_of strict (resolved o.reference a)) then) (◌>>=◌ (patch strict text name a waiting words) (λ p. is (keep o p))))
    go true k h =
        then-numbered 20 30 (word_of strict (resolved o.reference a)) then (word-numbered strict (resolved o.reference a) (λ e. resolved-decodable o.reference a)) k
    go false k h = then-numbered 20 30 (patch strict text name a waiting words) (λ p. is (keep o p)) h (λ p. tt)

-- ---- what a line does

module _ (t : Task) (w : Work) where
  says-numbered : (i : Instruction) → (t.strict ≡ true → decodable i ≡ true) → Numbered 20 30 (says t i w)
  unfolding says add_instruction
  says-numbered i d =
      then-numbered 20 30 (add_instruction t.strict t.word_room i w.words) (λ words. is (with_words w words))
      (then-numbered 20 30 (word_of t.strict i) (λ x. add_word t.word_room x w.words) (word-numbered t.strict i d)
      (λ x. add-numbered t.word_room x w.words))
      (λ words. tt)

  opens-numbered : (o : Open) → Numbered 20 30 (opens t o w)
  unfolding opens add_open
  opens-numbered o =
      then-numbered 20 30 (add_word t.word_room 0 w.words) (λ words. ◌>>=◌ (add_open o w.waiting) (λ waiting. is (work words w.labels waiting)))
      (add-numbered t.word_room 0 w.words)
      (λ words. then-numbered 20 30 (add_open o w.waiting) (λ waiting. is (work words w.labels waiting))
      (or-numbered (ltb (length w.waiting) 512) (w.waiting ++ o ∷ []) 28 20 30 (omega arith, omega arith)) (λ waiting. tt))

  references-numbered : (r : Reference) (place size : ℕ) → Numbered 20 30 (references t r place size w)
  unfolding references
  references-numbered r place size = go (find t.text (part t.text place size) w.labels)
    where
      go : (f : Option Found) → Numbered 20 30 (refers_to t r place size w f)
      go (Some f) = says-numbered (resolved r f.address) (λ e. resolved-decodable r f.address)
      go None = opens-numbered (open_to place size (length w.words) r)

  pub label-numbered : (place size : ℕ) → Numbered 20 30 (labelled t place size w)
  unfolding labelled define
  label-numbered place size =
      let l = label place size (doubled (length w.words)) in
      let name = part t.text place size in
      let patches = patch t.strict t.text name l.address w.waiting w.words in
      let next : List Label → Told Work = λ labels. ◌>>=◌ patches (λ p. is (work p.words labels p.waiting)) in
      then-numbered 20 30 (entered t.label_room l w.labels (find t.text name w.labels)) next
      (go (find t.text name w.labels))
      (λ labels. then-numbered 20 30 patches (λ p. is (work p.words labels p.waiting))
      (patch-numbered t.strict t.text name l.address w.waiting w.words) (λ p. tt))
    where
      go : (f : Option Found) → Numbered 20 30 (entered t.label_room (label place size (doubled (length w.words))) w.labels f)
      go (Some f) = tt
      go None = or-numbered (ltb (length w.labels) t.label_room) (w.labels ++ label place size (doubled (length w.words)) ∷ []) 27 20 30 (omega arith, omega arith)

-- ---- reading

fair-numbered : {A : Type 0} (x : Told A) → Fair x → Numbered 20 30 x
fair-numbered (is a) f = tt
fair-numbered (no n) (inl e) = (omega (arith, e), omega (arith, e))
fair-numbered (no n) (inr (inl e)) = (omega (arith, e), omega (arith, e))
fair-numbered (no n) (inr (inr (inl e))) = (omega (arith, e), omega (arith, e))
fair-numbered (no n) (inr (inr (inr e))) = (omega (arith, e), omega (arith, e))

parse-numbered : (ts : List (List ℕ)) → Numbered 20 30 (parse ts)
parse-numbered [] = rw parse-blank (omega arith, omega arith)
parse-numbered (mnemonic ∷ operands) = fair-numbered (parse (mnemonic ∷ operands)) (parse-fair mnemonic operands)

said-numbered : (at : ℕ) (line : List ℕ) (m : Told Meaning) → Numbered 20 30 m → Numbered 20 30 (said at line m)
said-numbered at line (is (Parse.says i)) p = tt
said-numbered at line (is (Parse.refers r name)) p = tt
said-numbered at line (no n) p = p

trimmed-numbered : (at : ℕ) (line : List ℕ) → Numbered 20 30 (read_trimmed at line)
trimmed-numbered at [] = tt
trimmed-numbered at (x ∷ xs) = go (eqb x 59) (ltb (length (name_in (x ∷ xs))) (length (x ∷ xs)))
  where
    go : (t u : Bool) → Numbered 20 30 (cond t (is Reading.skip) (cond u (is (Reading.label at (length (name_in (x ∷ xs))))) (said at (x ∷ xs) (parse (tokens (x ∷ xs))))))
    go true u = tt
    go false true = tt
    go false false = said-numbered at (x ∷ xs) (parse (tokens (x ∷ xs))) (parse-numbered (tokens (x ∷ xs)))

read-numbered : (line : List ℕ) → Numbered 20 30 (read line)
unfolding read
read-numbered line = trimmed-numbered (run is_blank line) (drop_end is_blank (drop_front is_blank line))

-- ---- a line: 32 where it says a CJP to a register in strict assembly, else 20 to 30

abbrev pub Numbers : Bool → Told Item → Told Work → Type 0
Numbers strict item x = ((x ≡ no 32) × ((strict ≡ true) × Cjp item)) ⊎ Numbered 20 30 x

-- a CJP to a register has no field that could be too wide
gives-32 : (t : Task) (at : ℕ) (item : Told Item) (w : Work) → (t.strict ≡ true) × Cjp item → turn t at item w ≡ no 32
unfolding turn says add_instruction word_of strict_word strict_order
gives-32 t at item w c = rw (c.1.1, c.0)

module _ (t : Task) (at : ℕ) (w : Work) where
  says-numbers : (i : Instruction) → Numbers t.strict (is (Reading.says i)) (turn t at (is (Reading.says i)) w)
  unfolding turn
  says-numbers i = go (decodable i) t.strict refl refl
    where
      go : (d s : Bool) → decodable i ≡ d → t.strict ≡ s → Numbers t.strict (is (Reading.says i)) (turn t at (is (Reading.says i)) w)
      go true s p q = inr (says-numbered t w i (λ e. p))
      go false true p q =
          let c = register-cjp-only i p in
          let e = ap (λ (j : Instruction). is (Reading.says j)) c.1 in
          let h : (t.strict ≡ true) × Cjp (is (Reading.says i)) = (q, (c.0, e)) in
          inl (gives-32 t at (is (Reading.says i)) w h, h)
      go false false p q = inr (says-numbered t w i (λ e. clash (sym q ∙ e)))

  item-numbers : (item : Told Item) → Numbered 20 30 item → Numbers t.strict item (turn t at item w)
  unfolding turn
  item-numbers (is Reading.skip) p = inr tt
  item-numbers (is (Reading.label start size)) p = inr (label-numbered t w (at + start) size)
  item-numbers (is (Reading.says i)) p = says-numbers i
  item-numbers (is (Reading.refers r start size)) p = inr (references-numbered t w r (at + start) size)
  item-numbers (no n) p = inr p

  pub turn-numbers : (line : List ℕ) → Numbers t.strict (read line) (turn t at (read line) w)
  turn-numbers line = item-numbers (read line) (read-numbered line)

  only-32 : (line : List ℕ) → turn t at (read line) w ≡ no 32 → (t.strict ≡ true) × Cjp (read line)
  only-32 line e = go (turn-numbers line)
    where
      go : Numbers t.strict (read line) (turn t at (read line) w) → (t.strict ≡ true) × Cjp (read line)
      go (inl p) = p.1
      go (inr q) = absurd (omega (arith, (its-number 20 30 (turn t at (read line) w) 32 q e).1))

pub strict-refuses : StrictRefuses
strict-refuses t at line w = (only-32 t at w line, gives-32 t at (read line) w)
