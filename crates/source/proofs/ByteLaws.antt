-- Words as bytes: with half a word 31, and more than 32,767 words are 16 whatever they say; else what the words' own text is. And each
-- answer is small. Assumes nothing.
use mathlib.Core.Path.{◌≡◌, refl, sym, ap, subst, ◌∙◌}
use mathlib.Core.Bool.{Bool, true, false}
use mathlib.Core.List.{List, ◌++◌}
use Prim.Native.Nat.{ℕ, ◌/◌, ◌%◌, ◌≤◌, ◌<◌}
use native.Mathlib.Omega.{arith}
use borrow.Author.Tests.{ltb-true, ltb-false}
use lib.Dec.{eqb, ltb}
use lib.ListN.{length, take, drop}
use Rattle.base.specs.Choice.{cond}
use Rattle.base.specs.Told.{Told, is, no}
use Rattle.base.proofs.OrderLaws.{passed-value}
use Rattle.printer.proofs.Laws.{placed_first}
use Rattle.wordbytes.specs.Words.{words_from, words_in, even}
use Rattle.wordbytes.proofs.Laws.{length-words, words-in, even-yes, even-no, even-whole, read_all}
use Rattle.source.specs.Words.{lowest}
use Rattle.source.specs.Source.{source_text, source_order, sourced, Answer, length_of, refusal, answer_by, answer, source_buffer, byte_answer, byte_buffer, Small}
use Rattle.source.proofs.AnswerLaws.{ends-16}
use Rattle.source.proofs.Longest.{text-most}

-- ---- what is answered is small

answer-small : (ws : List ℕ) (room : ℕ) → Small (answer ws room)
unfolding answer sourced
answer-small ws room = go (ltb 32767 (length ws)) refl (ltb (lowest ws) (length ws)) refl (ltb room (length (source_text ws)))
  where
    go : (t : Bool) → ltb 32767 (length ws) ≡ t → (u : Bool) → ltb (lowest ws) (length ws) ≡ u → (v : Bool)
        → Small (answer_by (lowest ws) (cond t (no 16) (cond u (no 33) (cond v (no 19) (is (length (source_text ws)))))))
    go true p u q v = (omega arith, omega arith, omega arith)
    go false p true q v = let l = ltb-false 32767 (length ws) p in let m = ltb-true (lowest ws) (length ws) q in (omega arith, omega arith, omega arith)
    go false p false q true = (omega arith, omega arith, omega arith)
    go false p false q false = text-most ws (ltb-false 32767 (length ws) p)

pub byte_small : (bytes : List ℕ) (room : ℕ) → Small (byte_answer bytes room)
unfolding byte_answer
byte_small bytes room = go (even bytes)
  where
    go : (t : Bool) → Small (cond t (answer (words_in bytes) room) (refusal 31 0))
    go true = answer-small (words_in bytes) room
    go false = (omega arith, omega arith, omega arith)

abbrev Ends : List ℕ → List ℕ → Answer → List ℕ → Type 0
Ends bytes out a after = (a ≡ byte_answer bytes (length out)) × ((after ≡ byte_buffer bytes out) × Small a)

module _ (bytes out : List ℕ) where
  pub ends-31 : (length bytes % 2 ≡ 0 → ⊥) → Ends bytes out (refusal 31 0) out
  unfolding byte_answer byte_buffer
  ends-31 h = rw (even-no bytes h) (refl, (refl, (omega arith, omega arith, omega arith)))

  module _ (h : length bytes % 2 ≡ 0) where
    of_words : (a : Answer) (after : List ℕ) → a ≡ answer (words_in bytes) (length out) → after ≡ source_buffer (words_in bytes) out → Ends bytes out a after
    unfolding byte_answer byte_buffer
    of_words a after p q = rw (even-yes bytes h) (p, (q, subst Small (sym p) (answer-small (words_in bytes) (length out))))

    pub ends-long : 32767 < length bytes / 2 → Ends bytes out (refusal 16 0) out
    ends-long l =
        let n : length (words_in bytes) ≡ length bytes / 2 = ap length (words-in bytes) ∙ length-words (length bytes / 2) bytes in
        let e = ends-16 (words_in bytes) out (omega (arith, l, n)) in
        of_words (refusal 16 0) out e.0 e.1

    -- the words that were read into the first places of a buffer
    pub ends_read : (room : List ℕ) → length bytes / 2 ≤ length room → (last : List ℕ) → last ≡ words_from (length (take (length bytes / 2) room)) bytes
        → (a : Answer) (after : List ℕ) → a ≡ answer (take (length bytes / 2) (last ++ drop (length bytes / 2) room)) (length out)
        → after ≡ source_buffer (take (length bytes / 2) (last ++ drop (length bytes / 2) room)) out → Ends bytes out a after
    ends_read room l last e a after p q =
        let r = read_all bytes room l last e in
        of_words a after (p ∙ ap (λ (ws : List ℕ). answer ws (length out)) r) (q ∙ ap (λ (ws : List ℕ). source_buffer ws out) r)

-- ---- where a length is answered: the words are whole, and it is that of their text, which is written

lost : {A : Type 0} (k index n : ℕ) → refusal k index ≡ length_of n → A
lost k index n q = absurd (let z : ◌≡◌ {A = ℕ} 0 1 = cc in omega arith)

module _ (ws out : List ℕ) (n : ℕ) where
  answer-length : answer ws (length out) ≡ length_of n → sourced ws (length out) ≡ is n
  unfolding answer
  answer-length e = go (sourced ws (length out)) refl e
    where
      go : (t : Told ℕ) → sourced ws (length out) ≡ t → answer_by (lowest ws) t ≡ length_of n → sourced ws (length out) ≡ is n
      go (is k) q h = q ∙ (let z : k ≡ n = cc in ap is z)
      go (no k) q h = lost k (cond (eqb k 33) (lowest ws) 0) n h

  text-length : sourced ws (length out) ≡ is n → n ≡ length (source_text ws)
  unfolding sourced
  text-length q = (passed-value (source_order ws (length out)) (length (source_text ws)) n q).1

  text-first : sourced ws (length out) ≡ is n → take n (source_buffer ws out) ≡ source_text ws
  unfolding source_buffer
  text-first q = rw (q, text-length q) (placed_first (source_text ws) out)

module _ (bytes out : List ℕ) (n : ℕ) where
  pub byte-length : byte_answer bytes (length out) ≡ length_of n
      → (length bytes % 2 ≡ 0) × (sourced (words_in bytes) (length out) ≡ is n) × (take n (byte_buffer bytes out) ≡ source_text (words_in bytes))
  unfolding byte_answer byte_buffer
  byte-length e = go (even bytes) refl e
    where
      ws : List ℕ
      ws = words_in bytes

      go : (t : Bool) → even bytes ≡ t → cond t (answer ws (length out)) (refusal 31 0) ≡ length_of n
          → (length bytes % 2 ≡ 0) × (sourced ws (length out) ≡ is n) × (take n (cond t (source_buffer ws out) out) ≡ source_text ws)
      go true q h = let k = answer-length ws out n h in (even-whole bytes q, k, text-first ws out n k)
      go false q h = lost 31 0 n h
