-- A word without a text is in no text's words: whatever a text means can be said, and masked to its widths it is what its own word says;
-- and a word with a text is what its line gives. 33 comes exactly where there is one without, with the lowest's index. Assumes nothing.
use Prim.Native.Nat.{ℕ, zero, suc, ◌≤◌, ◌<◌}
use mathlib.Core.Path.{◌≡◌, refl, sym, ap, subst, ◌∙◌}
use mathlib.Core.Bool.{Bool, true, false}
use mathlib.Core.List.{List, [], ◌∷◌, map}
use native.Mathlib.Omega.{arith}
use borrow.Author.Tests.{eq-eqb, ltb-true, ltb-false, lt-ltb, le-ltb}
use lib.Dec.{ltb}
use lib.ListN.{length, get_or}
use Rattle.base.specs.Choice.{cond}
use Rattle.base.specs.Order.{◌when◌, passing}
use Rattle.base.specs.Told.{is}
use Rattle.base.proofs.Tests.{clash}
use Rattle.instruction.specs.declared.Edition.TheVariants.{Second}
use Rattle.instruction.specs.declared.Instruction.{Instruction}
use Rattle.instruction.specs.declared.Instruction.TheVariants.{Noop}
use Rattle.instruction.specs.Editions.{decode_in}
use Rattle.instruction.specs.Encode.{encode}
use Rattle.instruction.specs.Fits.{sayable}
use Rattle.instruction.proofs.EditionLaws.{second_back}
use Rattle.instruction.proofs.MaskLaws.{masked, mask_word, mask_fits, mask-sayable}
use Rattle.text.specs.Lines.{ended}
use Rattle.text.proofs.EndedLaws.{lines-ended, ended-clean}
use Rattle.asm.specs.Words.{word_of, add_word, add_instruction}
use Rattle.asm.specs.Work.{task, work, says, turn}
use Rattle.asm.specs.Assemble.{accepted, assemble, outcome}
use Rattle.asm.specs.Meaning.{Meant, instruction, never, meaning}
use Rattle.asm.specs.Meaning as Meaning
use Rattle.asm.proofs.Sayable.{AllCan, meaning-can}
use Rattle.asm.proofs.Sound.{words-meant}
use Rattle.source.specs.Words.{instruction_of, has_text, lowest}
use Rattle.source.specs.Source.{plain_line, source_text, sourced, refusal, answer_by, answer}
use Rattle.source.specs.Promises.{Lacks, NoText, LowestWord, TextGiven}
use Rattle.source.proofs.AskLaws.{instruction-fits, text_says}
use Rattle.source.proofs.Printed.{line-back, plain-printed-line}

-- ---- no text

said-text : (i : Instruction) → sayable i ≡ true → has_text (encode i) ≡ true
unfolding has_text
said-text i s =
    let e : decode_in Second (encode i) ≡ is (masked i) = ap (decode_in Second) (sym (mask_word i)) ∙ second_back (masked i) (mask_fits i) in
    rw (e, eq-eqb (encode (masked i)) (encode i) (mask_word i), mask-sayable i s)

module _ (w : ℕ) (e : has_text w ≡ false) where
  not-said : (i : Instruction) → sayable i ≡ true → encode i ≡ w → ⊥
  not-said i s q = clash (sym e ∙ ap has_text (sym q) ∙ said-text i s)

  lacks : (ms : List Meant) → AllCan ms → Lacks w (map Meaning.word_of ms)
  lacks [] h = tt
  lacks (instruction i ∷ ms) h = (not-said i h.0, lacks ms h.1)
  lacks (never ∷ ms) h = (not-said Noop refl, lacks ms h)

-- ---- a text of one line

one_line : (w : ℕ) → has_text w ≡ true → outcome false (ended (plain_line (instruction_of w) ∷ [])) 1 0 ≡ accepted (work (w ∷ []) [] [])
unfolding assemble turn says add_instruction word_of add_word
one_line w h =
    let ls = plain_line (instruction_of w) ∷ [] in
    let p = plain-printed-line (instruction_of w) in
    let s = text_says w h in
    rw (ended-clean ls 1 (p, tt), lines-ended ls (p, tt), line-back (instruction_of w) (instruction-fits w) s.1, s.0)

pub no_text : NoText
no_text w = (
  λ e strict text word_room label_room v q. subst (Lacks w) (sym (words-meant (task strict text word_room label_room) v q)) (lacks w e (meaning text) (meaning-can text)),
  one_line w,
)

-- ---- the lowest

lowest-lacks : (ws : List ℕ) → lowest ws < length ws → has_text (get_or ws (lowest ws) 0) ≡ false
lowest-lacks [] h = absurd (omega (arith, h))
lowest-lacks (w ∷ ws) h = go (has_text w) refl h (lowest-lacks ws)
  where
    go : (t : Bool) → has_text w ≡ t → cond t (suc (lowest ws)) 0 < suc (length ws) → (lowest ws < length ws → has_text (get_or ws (lowest ws) 0) ≡ false) →
        has_text (get_or (w ∷ ws) (cond t (suc (lowest ws)) 0) 0) ≡ false
    go true e l ih = ih (omega (arith, l))
    go false e l ih = e

before-lowest : (ws : List ℕ) (k : ℕ) → k < lowest ws → has_text (get_or ws k 0) ≡ true
before-lowest [] k h = absurd (omega (arith, h))
before-lowest (w ∷ ws) k h = go (has_text w) refl k h (before-lowest ws)
  where
    go : (t : Bool) → has_text w ≡ t → (k : ℕ) → k < cond t (suc (lowest ws)) 0 → ((j : ℕ) → j < lowest ws → has_text (get_or ws j 0) ≡ true) → has_text (get_or (w ∷ ws) k 0) ≡ true
    go true e zero l ih = e
    go true e (suc k) l ih = ih k (omega (arith, l))
    go false e k l ih = absurd (omega (arith, l))

-- 33 is given only where there is one, with its index
given : (low index size : ℕ) (t u v : Bool) → answer_by low (passing (16 when t ∷ 33 when u ∷ 19 when v ∷ []) size) ≡ refusal 33 index → (u ≡ true) × (low ≡ index)
given low index size true u v e = absurd (let z : ◌≡◌ {A = ℕ} 16 33 = cc in omega arith)
given low index size false true v e = (refl, cc)
given low index size false false true e = absurd (let z : ◌≡◌ {A = ℕ} 19 33 = cc in omega arith)
given low index size false false false e = absurd (let z : ◌≡◌ {A = ℕ} 0 1 = cc in omega arith)

-- ---- and where a word has no text it is given

module _ (ws : List ℕ) where
  lowest-first : (k : ℕ) → has_text (get_or ws k 0) ≡ false → lowest ws ≤ k
  lowest-first k e = go (ltb k (lowest ws)) refl
    where
      go : (t : Bool) → ltb k (lowest ws) ≡ t → lowest ws ≤ k
      go true q = clash (sym e ∙ before-lowest ws k (ltb-true k (lowest ws) q))
      go false q = ltb-false k (lowest ws) q

  all_said : ((k : ℕ) → k < length ws → has_text (get_or ws k 0) ≡ true) → length ws ≤ lowest ws
  all_said h = go (ltb (lowest ws) (length ws)) refl
    where
      go : (t : Bool) → ltb (lowest ws) (length ws) ≡ t → length ws ≤ lowest ws
      go true q = let l = ltb-true (lowest ws) (length ws) q in clash (sym (lowest-lacks ws l) ∙ h (lowest ws) l)
      go false q = ltb-false (lowest ws) (length ws) q

pub lowest-word : LowestWord
unfolding answer sourced
lowest-word ws room = (
  λ index e.
      let g = given (lowest ws) index (length (source_text ws)) (ltb 32767 (length ws)) (ltb (lowest ws) (length ws)) (ltb room (length (source_text ws))) e in
      let h = ltb-true (lowest ws) (length ws) g.0 in
      subst (λ (j : ℕ). (j < length ws) × (has_text (get_or ws j 0) ≡ false) × ((k : ℕ) → k < j → has_text (get_or ws k 0) ≡ true)) g.1 (h, lowest-lacks ws h, before-lowest ws),
  λ k most l e.
      let f = lowest-first ws k e in
      let h : lowest ws < length ws = omega arith in
      rw (le-ltb 32767 (length ws) most, lt-ltb (lowest ws) (length ws) h),
)

pub text-given : TextGiven
unfolding answer sourced
text-given ws room most h l = rw (le-ltb 32767 (length ws) most, le-ltb (lowest ws) (length ws) (all_said ws h), le-ltb room (length (source_text ws)) l)
