-- Texts as C sees them: words by way of a buffer of 32,767, zeros after them, and numbers that fit. Assumes nothing.
use Prim.Native.Nat.{ℕ, ◌+◌, ◌-◌, ◌*◌, ◌/◌, ◌%◌, ◌≤◌, min}
use lib.Dec.{leb}
use lib.ListN.{length, replicate, take, drop}
use lib.Seq.{length-take-le, take_at, sets, sets-eq, length-sets}
use mathlib.Core.Bool.{Bool, true, false}
use mathlib.Core.List.{List, ◌++◌}
use mathlib.Core.Path.{◌∙◌, ◌≡◌, refl, sym, ap}
use native.Mathlib.Omega.{arith}
use borrow.Author.Tests.{leb-true, leb-false}
use Rattle.base.specs.Told.{Told, is, no}
use Rattle.wordbytes.specs.Words.{bytes_of, even}
use Rattle.wordbytes.proofs.Laws.{length-bytes, bytes-append, bytes-zeros, even-whole}
use Rattle.asm.specs.Assemble.{Outcome, accepted, refused, outcome, words_of, filled, Report, counts, refusal, report}
use Rattle.printer.specs.Print.{word_next}
use Rattle.printer.proofs.Laws.{Small, word_small}
use Rattle.lister.specs.Listing.{listing, listed}
use Rattle.numbers.specs.Answers.{listed_number, assembled_number, fitting}
use Rattle.seamkettle.specs.Calls.{assembling, assemble_number, assembled_words}
use Rattle.numbers.proofs.FittingLaws.{fit-counts, fit-refusal}
use Rattle.asm.proofs.Rooms.{outcome-room, words-most, report-most}
use Rattle.asm.proofs.FillLaws.{filled-parts, filled-exact, filled_more}
use Rattle.lister.proofs.Laws.{listed-fits, listed-19}

-- ---- a buffer that is filled up

-- n words with their zeros are written over the first bytes, and zeros after them
module _ (words ws : List ℕ) (n : ℕ) (h : length words % 2 ≡ 0) (k : n ≤ length words / 2) (l : length ws ≤ n) where
  spread : filled (length (sets words 0 (bytes_of (filled n ws)))) (take (2 * n) (sets words 0 (bytes_of (filled n ws))))
      ≡ bytes_of (filled (length words / 2) ws)
  spread =
      let o = filled n ws in
      let b : length (bytes_of o) ≡ 2 * n = length-bytes o ∙ ap (λ (x : ℕ). 2 * x) (filled-exact n ws l) in
      let f : 0 + length (bytes_of o) ≤ length words = omega (arith, b) in
      let t : take (2 * n) (sets words 0 (bytes_of o)) ≡ bytes_of o =
      ap (take (2 * n)) (sets-eq (bytes_of o) words 0 f) ∙ take_at (bytes_of o) (drop (0 + length (bytes_of o)) words) (2 * n) b in
      let z : 2 * (length words / 2 - n) ≡ length words - 2 * n = omega arith in
      let r : bytes_of (filled (length words / 2) ws) ≡ bytes_of o ++ replicate (length words - 2 * n) 0 =
      ap bytes_of (filled_more n (length words / 2) ws l k) ∙ bytes-append o (replicate (length words / 2 - n) 0)
      ∙ rw (bytes-zeros (length words / 2 - n), z) in
      rw (t, length-sets words 0 (bytes_of o)) (filled-parts (length words) (bytes_of o) ∙ rw b (sym r))

-- ---- assembling by way of a buffer of 32,767 words, of which n are lent

words-short : (strict : Bool) (text : List ℕ) (room labels : ℕ) → length (words_of (outcome strict text room labels)) ≤ room
words-short strict text room labels = go (outcome strict text room labels) refl
  where
    go : (o : Outcome) → outcome strict text room labels ≡ o → length (words_of o) ≤ room
    go (accepted w) e = omega (arith, words-most strict text room labels w e)
    go (refused k line) e = omega arith

module _ (strict : Bool) (text words own : List ℕ) (n : ℕ) (e : n ≡ min (length words / 2) 32767) (l : length own ≡ 32767) where
  pub own-lent : length (take n own) ≡ n
  own-lent = length-take-le n own (omega arith)

  room-same : outcome strict text n 1024 ≡ assembling strict text words
  unfolding assembling
  room-same = rw e (sym (outcome-room strict text (length words / 2) 1024))

  pub assembled-answer : (p : Report) → p ≡ report (outcome strict text (length (take n own)) 1024)
      → p ≡ report (assembling strict text words)
  assembled-answer p q = q ∙ ap (λ (k : ℕ). report (outcome strict text k 1024)) own-lent ∙ ap report room-same

  pub assembled-fits : (p : Report) → p ≡ report (outcome strict text (length (take n own)) 1024) → fitting p ≡ true
  assembled-fits (counts w t u) q =
      let m = report-most strict text (length (take n own)) 1024 w t u (sym q) in
      fit-counts w t u (omega (arith, m.0)) (omega (arith, m.1)) (omega (arith, m.2))
  assembled-fits (refusal k line) q = fit-refusal k line

  module _ (last : List ℕ) (q : last ≡ filled (length (take n own)) (words_of (outcome strict text (length (take n own)) 1024))) where
    own-words : take n (last ++ drop n own) ≡ filled n (words_of (outcome strict text n 1024))
    own-words =
        let f : last ≡ filled n (words_of (outcome strict text n 1024)) =
        q ∙ ap (λ (k : ℕ). filled k (words_of (outcome strict text k 1024))) own-lent in
        let m : length last ≡ n =
        ap length f ∙ filled-exact n (words_of (outcome strict text n 1024)) (words-short strict text n 1024) in
        take_at last (drop n own) n m ∙ f

    pub own-length : length (take n (last ++ drop n own)) ≡ n
    own-length =
        ap length own-words ∙ filled-exact n (words_of (outcome strict text n 1024)) (words-short strict text n 1024)

    pub own-fits : 2 * length (take n (last ++ drop n own)) ≤ length words
    own-fits = rw own-length (omega arith)

    pub assembled-bytes : even words ≡ true → (mid after : List ℕ) → mid ≡ sets words 0 (bytes_of (take n (last ++ drop n own)))
        → after ≡ filled (length mid) (take (2 * n) mid)
        → after ≡ bytes_of (filled (length words / 2) (words_of (assembling strict text words)))
    assembled-bytes h mid after r s =
        let ws = words_of (outcome strict text n 1024) in
        let g = even-whole words h in
        let k : n ≤ length words / 2 = omega arith in
        s ∙ ap (λ (x : List ℕ). filled (length x) (take (2 * n) x))
        (r ∙ ap (λ (x : List ℕ). sets words 0 (bytes_of x)) own-words) ∙ spread words ws n g k (words-short strict text n 1024)
        ∙ ap (λ (o : Outcome). bytes_of (filled (length words / 2) (words_of o))) room-same

-- ---- the whole call

module _ (strict : Bool) (text words : List ℕ) where
  module _ (e : even words ≡ false) where
    pub odd_number : 31 ≡ assemble_number strict text words
    unfolding assemble_number
    odd_number = rw e

    pub odd-words : words ≡ assembled_words strict text words
    unfolding assembled_words
    odd-words = rw e

  module _ (e : even words ≡ true) where
    pub even-number : (p : Report) → p ≡ report (assembling strict text words) → assembled_number p ≡ assemble_number strict text words
    unfolding assemble_number
    even-number p q = rw e (ap assembled_number q)

    pub even-words : (after : List ℕ) → after ≡ bytes_of (filled (length words / 2) (words_of (assembling strict text words)))
        → after ≡ assembled_words strict text words
    unfolding assembled_words
    even-words after q = rw e q

-- ---- the listing and one word's text: their length fits

pub list-fits : (text : List ℕ) (room : ℕ) (p : Told ℕ) → p ≡ listed text room → length (listing text) ≤ 1212432
    → listed_number p ≤ 18446744073709551615
list-fits text room p q h = go (leb (length (listing text)) room) refl
  where
    go : (t : Bool) → leb (length (listing text)) room ≡ t → listed_number p ≤ 18446744073709551615
    go true e = rw (q ∙ listed-fits text room (leb-true (length (listing text)) room e)) (omega arith)
    go false e = rw (q ∙ listed-19 text room (leb-false (length (listing text)) room e)) (omega arith)

pub word_fits : (w room : ℕ) (p : Told ℕ) → p ≡ word_next w room → listed_number p ≤ 18446744073709551615
word_fits w room p q = rw q (go (word_next w room) (word_small w room))
  where
    go : (t : Told ℕ) → Small t → listed_number t ≤ 18446744073709551615
    go (is n) h = omega (arith, h)
    go (no n) h = omega (arith, h)
