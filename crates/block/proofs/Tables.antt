-- The two tables as the code writes them, entry by entry, and as they are read back: said once, for entries of two numbers. Assumes nothing.
use Prim.Native.Nat.{ℕ, zero, suc, ◌+◌, ◌*◌, ◌<◌, ◌≤◌}
use mathlib.Core.Path.{◌≡◌, refl, sym, ap, ◌∙◌}
use mathlib.Core.List.{List, [], ◌∷◌, ◌++◌, map}
use Rattle.std.specs.List.{range_with_len}
use lib.ListN.{length, get_or, take, drop}
use lib.Seq.{length-take-le, take-suc, sets}
use native.Mathlib.Nat.{mod-add-div}
use native.Mathlib.Omega.{arith}
use Rattle.wordbytes.specs.Words.{word_bytes, bytes_of, word_at, words_from}
use Rattle.wordbytes.proofs.Laws.{length-bytes, bytes-none, bytes_pair, bytes-append}
use Rattle.wordbytes.proofs.Parts.{word-drop, words-none, words-pair, sets-next}
use Rattle.block.specs.Entries.{entry_words, entries_from, Pairs}

-- after 2n words, two more
two-more : (b : List ℕ) (i n : ℕ) (ws : List ℕ) (x y : ℕ) → length ws ≡ 2 * n
    → sets (sets b i (bytes_of ws)) (i + 4 * n) (bytes_of (x ∷ y ∷ [])) ≡ sets b i (bytes_of (ws ++ (x ∷ y ∷ [])))
two-more b i n ws x y e =
    let l : i + length (bytes_of ws) ≡ i + 4 * n = omega (arith, length-bytes ws) in
    rw (bytes-append ws (x ∷ y ∷ [])) (sets-next (bytes_of ws) (bytes_of (x ∷ y ∷ [])) b i (i + 4 * n) l)

-- ---- written

module _ {E : Type 0} (one two : E → ℕ) where
  words-length : (l : List E) → length (entry_words one two l) ≡ 2 * length l
  unfolding entry_words
  words-length [] = refl
  words-length (x ∷ l) = omega (arith, words-length l)

  pub table-length : (l : List E) → length l ≡ 8 → length (bytes_of (entry_words one two l)) ≡ 32
  table-length l e = omega (arith, length-bytes (entry_words one two l), words-length l)

  words_snoc : (l : List E) (x : E) → entry_words one two (l ++ (x ∷ [])) ≡ entry_words one two l ++ (one x ∷ two x ∷ [])
  unfolding entry_words
  words_snoc [] x = refl
  words_snoc (y ∷ l) x = rw (words_snoc l x)

  -- no entry is written
  pub table-start : (b : List ℕ) (i : ℕ) → b ≡ sets b i (bytes_of (entry_words one two []))
  unfolding entry_words
  table-start b i = rw bytes-none

  -- n entries are written, and one more
  pub table-next : (b : List ℕ) (i : ℕ) (l : List E) (n : ℕ) (x : E) → n < length l → x ≡ get_or l n x
      → sets (sets b i (bytes_of (entry_words one two (take n l)))) (i + 4 * n) (bytes_of (one x ∷ two x ∷ []))
      ≡ sets b i (bytes_of (entry_words one two (take (n + 1) l)))
  table-next b i l n x h r =
      let m : n ≤ length l = omega arith in
      let e : length (entry_words one two (take n l)) ≡ 2 * n = words-length (take n l) ∙ ap (λ (k : ℕ). 2 * k) (length-take-le n l m) in
      let s : n + 1 ≡ suc n = omega arith in
      let f : take (n + 1) l ≡ take n l ++ (x ∷ []) = rw (s, take-suc l n x h) (ap (λ y. take n l ++ (y ∷ [])) (sym r)) in
      rw (f, words_snoc (take n l) x) (two-more b i n (entry_words one two (take n l)) (one x) (two x) e)

-- ---- read

module _ {E : Type 0} (of : ℕ → ℕ → E) where
  pub table-count : (n i : ℕ) (b : List ℕ) → length (entries_from of n b i) ≡ n
  unfolding entries_from
  table-count zero i b = refl
  table-count (suc n) i b = rw (table-count n (i + 4) b)

  -- at a place of a list, or from what is left there
  pub table-shift : (n i j : ℕ) (b : List ℕ) → entries_from of n (drop i b) j ≡ entries_from of n b (i + j)
  unfolding entries_from
  table-shift zero i j b = refl
  table-shift (suc n) i j b =
      let f : i + (j + 2) ≡ i + j + 2 = omega arith in
      let g : i + (j + 4) ≡ i + j + 4 = omega arith in
      let p : word_at (drop i b) (j + 2) ≡ word_at b (i + j + 2) = word-drop i (j + 2) b ∙ ap (word_at b) f in
      let q : entries_from of n (drop i b) (j + 4) ≡ entries_from of n b (i + j + 4) = table-shift n i (j + 4) b ∙ ap (entries_from of n b) g in
      rw (word-drop i j b, p, q)

  -- in a row, by the number of each
  row-from : (b : List ℕ) (i n j : ℕ) → map (λ k. of (word_at b (i + 4 * k)) (word_at b (i + 4 * k + 2))) (range_with_len j n) ≡ entries_from of n b (i + 4 * j)
  unfolding entries_from
  row-from b i zero j = refl
  row-from b i (suc n) j = let m : i + 4 * (j + 1) ≡ i + 4 * j + 4 = omega arith in rw (row-from b i n (j + 1), m)

  pub table-row : (b : List ℕ) (i n : ℕ) → map (λ k. of (word_at b (i + 4 * k)) (word_at b (i + 4 * k + 2))) (range_with_len 0 n) ≡ entries_from of n b i
  table-row b i n = let z : i + 0 ≡ i = omega arith in row-from b i n 0 ∙ ap (entries_from of n b) z

-- ---- read back

module _ {E : Type 0} {one two : E → ℕ} {of : ℕ → ℕ → E} (t : Pairs one two of) where
  pub table-back : (l : List E) (b : List ℕ) → entries_from of (length l) (bytes_of (entry_words one two l) ++ b) 0 ≡ l
  unfolding entry_words entries_from
  table-back [] b = refl
  table-back (x ∷ l) b =
      let r = word_bytes (one x) ++ word_bytes (two x) ++ bytes_of (entry_words one two l) ++ b in
      let f : bytes_of (one x ∷ two x ∷ entry_words one two l) ++ b ≡ r = rw (bytes_pair (one x) (two x) (entry_words one two l)) in
      let e : entries_from of (length l) r 4 ≡ l = sym (table-shift of (length l) 4 0 r) ∙ table-back l b in
      ap (λ (k : List ℕ). entries_from of (suc (length l)) k 0) f
      ∙ rw (mod-add-div (one x) 256, mod-add-div (two x) 256, t.back x, e)

  -- and as the words that stand there
  pub table-words : (n : ℕ) (b : List ℕ) → entry_words one two (entries_from of n b 0) ≡ words_from (2 * n) b
  unfolding entry_words entries_from
  table-words zero b = sym (words-none b)
  table-words (suc n) b =
      let m : 2 * suc n ≡ suc (suc (2 * n)) = omega arith in
      let e : entry_words one two (entries_from of n b 4) ≡ words_from (2 * n) (drop 4 b) =
      ap (entry_words one two) (sym (table-shift of n 4 0 b)) ∙ table-words n (drop 4 b) in
      rw (t.first_of (word_at b 0) (word_at b 2), t.second_of (word_at b 0) (word_at b 2), e, m) (sym (words-pair (2 * n) b))
