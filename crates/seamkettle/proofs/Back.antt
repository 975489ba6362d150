-- What is promised of words holds of the bytes that a C host gets: a code of 0 is a length, so the buffer starts with the text; and words
-- that fill a buffer come back as its bytes. Assumes nothing.
use Prim.Native.Nat.{ℕ, ◌-◌, ◌/◌, ◌%◌, ◌<◌, min}
use mathlib.Core.Path.{◌≡◌, refl, sym, ap, ◌∙◌}
use mathlib.Core.Bool.{true, false}
use mathlib.Core.List.{List, append-nil}
use mathlib.Core.Logic.{◌⊎◌, inl, inr}
use native.Mathlib.Omega.{arith}
use lib.ListN.{length, take}
use Rattle.wordbytes.specs.Words.{bytes_of, words_in, are_bytes, even}
use Rattle.wordbytes.proofs.Laws.{length-words, words-in, bytes-in-back, even-yes}
use Rattle.asm.specs.Work.{Work}
use Rattle.asm.specs.Assemble.{Outcome, accepted, refused, outcome, filled, report}
use Rattle.asm.proofs.FillLaws.{filled-parts}
use Rattle.asm.proofs.Rooms.{report-most}
use Rattle.source.specs.Source.{source_text, Answer, length_of, refusal, byte_answer, byte_buffer, Small}
use Rattle.source.specs.Promises.{Back}
use Rattle.source.proofs.ByteLaws.{byte-length, byte_small}
use Rattle.source.proofs.Back.{text-back}
use Rattle.numbers.specs.Answers.{most_lines, sourced_number}
use Rattle.numbers.proofs.Parts.{the_code, the-count, no_code, the_open}
use Rattle.seamkettle.specs.Calls.{assembling, assemble_number, assembled_words}
use Rattle.seamkettle.specs.Means.{code_of}
use Rattle.seamkettle.specs.Back.{bytes_counted, Same, Full, BackFromC}

-- words that fill a buffer
filled-full : (room : ℕ) (ws : List ℕ) → length ws ≡ room → filled room ws ≡ ws
filled-full room ws e =
    let z : room - length ws ≡ 0 = omega arith in
    filled-parts room ws ∙ rw z (append-nil ws)

module _ (text words buffer : List ℕ) (b : are_bytes words ≡ true) (h : length words % 2 ≡ 0) (l : length buffer ≡ length words) where
  half : length (words_in words) ≡ length buffer / 2
  half = ap length (words-in words) ∙ length-words (length words / 2) words ∙ ap (λ (k : ℕ). k / 2) (sym l)

  whole : even buffer ≡ true
  whole = even-yes buffer (ap (λ (k : ℕ). k % 2) l ∙ h)

  accepted-same : (w : Work) → outcome false text (length buffer / 2) 1024 ≡ accepted w → (w.words ≡ words_in words) × (length w.waiting ≡ 0) → Same text buffer words
  unfolding assemble_number assembled_words assembling
  accepted-same w e k =
      let x = length w.words in
      let y = length w.labels in
      let z = length w.waiting in
      let m = report-most false text (length buffer / 2) 1024 x y z (ap report e) in
      let small : (x < 65536) × (y < 65536) × (z < 65536) = (omega (arith, m.0), omega (arith, m.1), omega (arith, m.2)) in
      let full : bytes_of (filled (length buffer / 2) w.words) ≡ words =
      ap (λ (ws : List ℕ). bytes_of (filled (length buffer / 2) ws)) k.0 ∙ ap bytes_of (filled-full (length buffer / 2) (words_in words) half) ∙ bytes-in-back words h b in
      record {
        code = rw (whole, e) (no_code x y z small.0 small.1 small.2);
        closed = rw (whole, e) (the_open x y z small.0 small.1 small.2 ∙ k.1);
        bytes = rw (whole, e) full;
      }

  refused-28 : (n line : ℕ) → outcome false text (length buffer / 2) 1024 ≡ refused n line → n ≡ 28 → code_of (assemble_number false text buffer) ≡ 28
  unfolding assemble_number assembling
  refused-28 n line e k = rw (whole, e, k) (the_code 28 (min line most_lines) (omega arith))

  back : (o : Outcome) → outcome false text (length buffer / 2) 1024 ≡ o → Back (words_in words) o → Same text buffer words ⊎ Full text buffer words
  back (accepted w) e k = inl (accepted-same w e k)
  back (refused n line) e k = inr (refused-28 n line e k.0, k.1)

pub back-from-c : BackFromC
back-from-c words out buffer b l = go (byte_answer words (length out)) refl (byte_small words (length out))
  where
    go : (a : Answer) → byte_answer words (length out) ≡ a → Small a → code_of (sourced_number a) ≡ 0 →
        let text = take (bytes_counted (sourced_number a)) (byte_buffer words out) in
        Same text buffer words ⊎ Full text buffer words
    go (length_of n) e s c =
        let k = byte-length words out n e in
        let text : take (bytes_counted (sourced_number (length_of n))) (byte_buffer words out) ≡ source_text (words_in words) =
        ap (λ (m : ℕ). take m (byte_buffer words out)) (the-count 0 n (omega arith)) ∙ k.2 in
        rw text (back (source_text (words_in words)) words buffer b k.0 l _ refl
        (text-back (words_in words) (length out) n k.1 (length buffer / 2) 1024 (omega (arith, half (source_text (words_in words)) words buffer b k.0 l)) (omega arith)))
    go (refusal n index) e s c = absurd (omega (arith, c, the_code n index (omega (arith, s.1)), s.0))
