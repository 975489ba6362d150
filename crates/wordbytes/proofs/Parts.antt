-- Words as the code reads and writes them, one after the other. Assumes nothing.
use Prim.Native.Nat.{ℕ, zero, suc, ◌+◌, ◌*◌, ◌<◌, ◌≤◌}
use mathlib.Core.Path.{◌≡◌, refl, ap, ◌∙◌}
use mathlib.Core.List.{List, [], ◌∷◌, ◌++◌, map}
use Rattle.std.specs.List.{range_with_len}
use lib.ListN.{length, get_or, take, drop, set}
use lib.Seq.{get_or-drop, drop-drop, length-take-le, take-suc, take-suc-set, sets}
use native.Mathlib.Omega.{arith}
use Rattle.wordbytes.specs.Words.{word_at, word_bytes, bytes_of, words_from}
use Rattle.wordbytes.proofs.Laws.{length-bytes}

-- ---- read

-- a word of what is left at a place
pub word-drop : (i j : ℕ) (l : List ℕ) → word_at (drop i l) j ≡ word_at l (i + j)
word-drop i j l = let f : i + (j + 1) ≡ i + j + 1 = omega arith in rw (get_or-drop i l j 0, get_or-drop i l (j + 1) 0, f)

-- no words, and two and more
pub words-none : (l : List ℕ) → words_from 0 l ≡ []
unfolding words_from
words-none l = refl

pub words-pair : (n : ℕ) (l : List ℕ) → words_from (suc (suc n)) l ≡ word_at l 0 ∷ word_at l 2 ∷ words_from n (drop 4 l)
unfolding words_from
words-pair n l = rw (drop-drop 2 2 l, word-drop 2 0 l)

pub words-eight : (l : List ℕ)
    → words_from 8 l
    ≡ word_at l 0 ∷ word_at l 2 ∷ word_at l 4 ∷ word_at l 6 ∷ word_at l 8 ∷ word_at l 10 ∷ word_at l 12 ∷ word_at l 14 ∷ []
unfolding words_from
words-eight l = simp (drop-drop, get_or-drop)

-- n words, and one more
words-suc : (n : ℕ) (l : List ℕ) → words_from (suc n) l ≡ words_from n l ++ (word_at l (2 * n) ∷ [])
unfolding words_from
words-suc zero l = refl
words-suc (suc n) l =
    let i : 2 + 2 * n ≡ 2 * suc n = omega arith in
    let r : word_at (drop 2 l) (2 * n) ≡ word_at l (2 * suc n) = word-drop 2 (2 * n) l ∙ ap (word_at l) i in
    ap (λ (t : List ℕ). word_at l 0 ∷ t) (words-suc n (drop 2 l) ∙ ap (λ (w : ℕ). words_from n (drop 2 l) ++ (w ∷ [])) r)

pub words_snoc : (n : ℕ) (l : List ℕ) → words_from (n + 1) l ≡ words_from n l ++ (word_at l (2 * n) ∷ [])
words_snoc n l = let s : n + 1 ≡ suc n = omega arith in rw s (words-suc n l)

-- n words are read into the front, and one more
pub read_next : (l ws : List ℕ) (n : ℕ) → n < length ws → take n ws ≡ words_from n l
    → take (n + 1) (set ws n (word_at l (2 * n))) ≡ words_from (n + 1) l
read_next l ws n h e =
    let s : n + 1 ≡ suc n = omega arith in
    rw (words_snoc n l, s, take-suc-set ws n (word_at l (2 * n)) h, e)

-- words in a row, by the number of each
words-row-from : (l : List ℕ) (i n j : ℕ) → map (λ k. word_at l (i + 2 * k)) (range_with_len j n) ≡ words_from n (drop (i + 2 * j) l)
unfolding words_from
words-row-from l i zero j = refl
words-row-from l i (suc n) j =
    let m : i + 2 * (j + 1) ≡ i + 2 * j + 2 = omega arith in
    let z : i + 2 * j + 0 ≡ i + 2 * j = omega arith in
    let w : word_at (drop (i + 2 * j) l) 0 ≡ word_at l (i + 2 * j) = word-drop (i + 2 * j) 0 l ∙ ap (word_at l) z in
    rw (words-row-from l i n (j + 1), drop-drop 2 (i + 2 * j) l, m, w)

pub words-row : (l : List ℕ) (i n : ℕ) → map (λ k. word_at l (i + 2 * k)) (range_with_len 0 n) ≡ words_from n (drop i l)
words-row l i n = let z : i + 0 ≡ i = omega arith in words-row-from l i n 0 ∙ ap (λ j. words_from n (drop j l)) z

-- ---- written

-- bytes are written, and others right after them
pub sets-next : (a b l : List ℕ) (i n : ℕ) → i + length a ≡ n → sets (sets l i a) n b ≡ sets l i (a ++ b)
sets-next [] b l i n e = let z : n ≡ i = omega arith in ap (λ (k : ℕ). sets l k b) z
sets-next (x ∷ a) b l i n e = sets-next a b (set l i x) (suc i) n (omega arith)

-- two words, one after the other
pub two-words : (l : List ℕ) (i x y : ℕ) → sets (sets l i (word_bytes x)) (i + 2) (word_bytes y) ≡ sets l i (bytes_of (x ∷ y ∷ []))
unfolding bytes_of
two-words l i x y = sets-next (word_bytes x) (word_bytes y) l i (i + 2) refl

bytes-snoc : (ws : List ℕ) (w : ℕ) → bytes_of (ws ++ (w ∷ [])) ≡ bytes_of ws ++ word_bytes w
unfolding bytes_of
bytes-snoc [] w = refl
bytes-snoc (x ∷ ws) w = rw (bytes-snoc ws w)

-- n words are written, and one more
pub word_next : (l : List ℕ) (i : ℕ) (g : List ℕ) (n : ℕ) → n < length g
    → sets (sets l i (bytes_of (take n g))) (i + 2 * n) (word_bytes (get_or g n 0)) ≡ sets l i (bytes_of (take (n + 1) g))
word_next l i g n h =
    let m : n ≤ length g = omega arith in
    let e : i + length (bytes_of (take n g)) ≡ i + 2 * n = rw (length-bytes (take n g), length-take-le n g m) in
    let s : n + 1 ≡ suc n = omega arith in
    rw (s, take-suc g n 0 h, bytes-snoc) (sets-next (bytes_of (take n g)) (word_bytes (get_or g n 0)) l i (i + 2 * n) e)
