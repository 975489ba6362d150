-- Plain assembly of the text of words gives them back, or 28: each word has a text, so its line can be read, there are no more label lines
-- than addresses of eleven bits, the text means the words' instructions (Whole.antt), and these have the words. Assumes nothing.
use Prim.Native.Nat.{ℕ, suc, ◌+◌, ◌-◌, ◌≤◌, ◌<◌}
use mathlib.Core.Path.{◌≡◌, refl, sym, ap, subst, ◌∙◌}
use mathlib.Core.Bool.{Bool, true, false}
use mathlib.Core.List.{List, [], ◌∷◌, map}
use native.Mathlib.Omega.{arith}
use borrow.Author.Tests.{ltb-false}
use lib.ListN.{length, length-map}
use Rattle.base.specs.Choice.{cond}
use Rattle.base.specs.Told.{Told, is}
use Rattle.base.specs.Words.{doubled}
use Rattle.base.proofs.OrderLaws.{passed-value}
use Rattle.instruction.specs.declared.Instruction.{Instruction}
use Rattle.instruction.specs.Fits.{fits, sayable}
use Rattle.pen.specs.Numbers.{hex}
use Rattle.text.specs.Lines.{lines}
use Rattle.text.proofs.JoinedLaws.{joined}
use Rattle.text.proofs.EndedLaws.{lines-ended, ended-clean}
use Rattle.parser.specs.declared.Reference.{Reference}
use Rattle.parser.specs.Answers as Answers
use Rattle.asm.specs.Reading.{Item, said, read}
use Rattle.asm.specs.Reading as Reading
use Rattle.asm.specs.Work.{Task, task}
use Rattle.asm.specs.Assemble.{Outcome, accepted, refused, assemble, outcome}
use Rattle.asm.specs.Meaning.{instruction, meaning, word_of, nevers}
use Rattle.asm.proofs.Lines.{read-joined, label-line}
use Rattle.asm.proofs.Room.{words_of, labels_of, refers_of, words_in, labels_in, refers_in, Reads, AllRead, Ends, room}
use Rattle.asm.proofs.Sound.{words-meant, open-meant}
use Rattle.source.specs.Words.{instruction_of, has_text, lowest}
use Rattle.source.specs.Source.{label_name, aim_of, reference_name, refer_line, label_line, line_of, used_by, lines_of, source_of, source_text, source_order, sourced}
use Rattle.source.specs.Promises.{refers, references, Back, TextBack}
use Rattle.source.proofs.AskLaws.{instruction-fits, text_says}
use Rattle.source.proofs.MarkLaws.{words-fit, used-most}
use Rattle.source.proofs.Cases.{line-cases, label-cases}
use Rattle.source.proofs.Printed.{line-back}
use Rattle.source.proofs.Refers.{name-plain, refer-joined, refer-plain, refer-parse}
use Rattle.source.proofs.Resolve.{Good}
use Rattle.source.proofs.Whole.{lines-printed, meaning-source}

-- ---- what the lines take

label-read : (a : ℕ) → read (label_line a) ≡ is (Reading.label 0 (length (label_name a)))
unfolding label_line label_name
label-read a = label-line 76 (hex a) (name-plain a)

refer-read : (r : Reference) (a : ℕ) → read (refer_line r a) ≡ said 0 (joined (reference_name r ∷ label_name a ∷ [])) (is (Answers.refers r (label_name a)))
refer-read r a =
    ap read (refer-joined r a) ∙ read-joined (reference_name r) (label_name a ∷ []) (refer-plain r a) ∙
    ap (said 0 (joined (reference_name r ∷ label_name a ∷ []))) (refer-parse r a)

-- they can be read, and take so many words, no more labels than these, and so many references
record Takes (ls : List (List ℕ)) (m k r : ℕ) : Type 0 where
  pub reads : AllRead ls
  pub words : words_in ls ≡ m
  pub labels : labels_in ls ≤ k
  pub references : refers_in ls ≡ r

module _ {ls : List (List ℕ)} {m k r : ℕ} (h : Takes ls m k r) where
  takes-more : {x : Told Item} {l : List ℕ} {p q s : ℕ} → read l ≡ x → Reads x → words_of x + m ≡ p → labels_of x + k ≤ q → refers_of x + r ≡ s → Takes (l ∷ ls) p q s
  takes-more e f a b c =
      record {
        reads = rw e (f, h.reads);
        words = rw (e, h.words, a);
        labels = rw e (omega (arith, h.labels, b));
        references = rw (e, h.references, c);
      }

  line-takes : (n : ℕ) (i : Instruction) → fits i ≡ true → sayable i ≡ true → Takes (line_of n i ∷ ls) (1 + m) k (refers n (aim_of i) + r)
  line-takes n i f s =
      line-cases (λ l x. Takes (l ∷ ls) (1 + m) k (x + r)) n i (takes-more (line-back i f s) tt refl (omega arith) refl)
      (λ q a e t. takes-more (refer-read q a) tt refl (omega arith) refl)

module _ (used : ℕ → Bool) (few : (k : ℕ) → used (doubled k) ≡ true → k < 1024) (n : ℕ) where
  lines-take : (k : ℕ) (xs : List Instruction) → Good xs → Takes (lines_of used n k xs) (length xs) (1024 - k) (references n xs)
  lines-take k [] g = record { reads = tt; words = refl; labels = omega arith; references = refl }
  lines-take k (i ∷ xs) g =
      let h = line-takes (lines-take (k + 1) xs g.2) n i g.0 g.1 in
      label-cases (λ ls. Takes ls (length (i ∷ xs)) (1024 - k) (references n (i ∷ xs))) used n k i xs
      (λ e. takes-more h (label-read (doubled k)) tt (omega arith) (omega (arith, few k e)) (omega arith))
      (λ e. record { reads = h.reads; words = omega (arith, h.words); labels = omega (arith, h.labels); references = h.references })

-- ---- the instructions of words

none_never : (xs : List Instruction) → nevers (map instruction xs) ≡ 0
none_never [] = refl
none_never (i ∷ xs) = none_never xs

words-said : (ws : List ℕ) → length ws ≤ lowest ws → Good (map instruction_of ws) × (map word_of (map instruction (map instruction_of ws)) ≡ ws)
words-said [] h = (tt, refl)
words-said (w ∷ ws) h = go (has_text w) refl h (words-said ws)
  where
    xs : List Instruction
    xs = map instruction_of ws

    go : (t : Bool) → has_text w ≡ t → suc (length ws) ≤ cond t (suc (lowest ws)) 0 → (length ws ≤ lowest ws → Good xs × (map word_of (map instruction xs) ≡ ws)) →
        Good (instruction_of w ∷ xs) × (map word_of (map instruction (instruction_of w ∷ xs)) ≡ w ∷ ws)
    go true e l ih =
        let s = text_says w e in
        let r = ih (omega (arith, l)) in
        ((instruction-fits w, s.1, r.0), rw (s.0, r.1))
    go false e l ih = absurd (omega (arith, l))

-- ---- the whole

module _ (ws : List ℕ) (most : length ws ≤ 32767) (all : length ws ≤ lowest ws) (word_room label_room : ℕ) (hw : length ws ≤ word_room) (hl : 1024 ≤ label_room) where
  abbrev xs : List Instruction
  xs = map instruction_of ws

  abbrev ls : List (List ℕ)
  ls = lines_of (used_by xs) (length xs) 0 xs

  few : (k : ℕ) → used_by xs (doubled k) ≡ true → k < 1024
  few k e = let h = used-most xs (doubled k) (words-fit ws) e in omega arith

  takes : Takes (lines (source_text ws)) (length ws) 1024 (references (length ws) xs)
  unfolding source_of
  takes =
      rw (lines-ended ls (lines-printed (used_by xs) (length xs) 0 xs))
      (subst (λ (n : ℕ). Takes ls n 1024 (references n xs)) (length-map ws instruction_of) (lines-take (used_by xs) few (length xs) 0 xs (words-said ws all).0))

  ends : Ends (references (length ws) xs) (outcome false (source_text ws) word_room label_room)
  unfolding source_of
  ends =
      rw (sym takes.references)
      (room (source_text ws) word_room label_room (ended-clean ls 1 (lines-printed (used_by xs) (length xs) 0 xs)) takes.reads
      (omega (arith, takes.words, hw)) (omega (arith, takes.words, most)) (omega (arith, takes.labels, hl)))

  words_back : Back ws (outcome false (source_text ws) word_room label_room)
  words_back = go (outcome false (source_text ws) word_room label_room) refl ends
    where
      t : Task
      t = task false (source_text ws) word_room label_room

      means : meaning (source_text ws) ≡ map instruction xs
      means = meaning-source xs (omega (arith, most, length-map ws instruction_of)) (words-said ws all).0

      go : (o : Outcome) → assemble t ≡ o → Ends (references (length ws) xs) o → Back ws o
      go (accepted w) e h = (words-meant t w e ∙ ap (map word_of) means ∙ (words-said ws all).1, open-meant t w e ∙ ap nevers means ∙ none_never xs)
      go (refused n line) e h = h

pub text-back : TextBack
unfolding sourced
text-back ws space n e word_room label_room hw hl =
    let p = (passed-value (source_order ws space) (length (source_text ws)) n e).0 in
    words_back ws (ltb-false 32767 (length ws) p.0) (ltb-false (lowest ws) (length ws) p.1.0) word_room label_room hw hl
