-- Words are read back from their bytes, and bytes from the words that they make; also by way of a buffer's first places. Assumes nothing.
use Prim.Native.Nat.{ℕ, zero, suc, ◌+◌, ◌*◌, ◌/◌, ◌%◌, ◌<◌, ◌≤◌}
use mathlib.Core.Path.{◌≡◌, refl, sym, ap, ◌∙◌}
use mathlib.Core.Bool.{true, false}
use mathlib.Core.List.{List, [], ◌∷◌, ◌++◌, append-nil}
use lib.Dec.{ltb}
use lib.ListN.{length, get_or, take, drop, replicate}
use lib.Seq.{take_all, take_at, length-take-le}
use borrow.Author.Tests.{ltb-true, eqb-true, eq-eqb, ne_eqb}
use native.Mathlib.Nat.{mod-add-div}
use native.Mathlib.Omega.{arith}
use Rattle.base.proofs.Tests.{both}
use Rattle.wordbytes.specs.Words.{word_bytes, bytes_of, words_from, words_in, even, are_bytes}

pub length-bytes : (ws : List ℕ) → length (bytes_of ws) ≡ 2 * length ws
unfolding bytes_of
length-bytes [] = refl
length-bytes (w ∷ ws) = omega (arith, length-bytes ws)

pub length-words : (n : ℕ) (bytes : List ℕ) → length (words_from n bytes) ≡ n
unfolding words_from
length-words zero bytes = refl
length-words (suc n) bytes = rw (length-words n _)

pub words_back : (ws l : List ℕ) → words_from (length ws) (bytes_of ws ++ l) ≡ ws
unfolding bytes_of words_from
words_back [] l = refl
words_back (w ∷ ws) l = rw (mod-add-div w 256, words_back ws l)

pub words-in : (bytes : List ℕ) → words_in bytes ≡ words_from (length bytes / 2) bytes
unfolding words_in
words-in bytes = refl

pub words-in-back : (ws : List ℕ) → words_in (bytes_of ws) ≡ ws
unfolding words_in
words-in-back ws =
    let n : length (bytes_of ws) / 2 ≡ length ws = omega (arith, length-bytes ws) in
    rw n (ap (words_from (length ws)) (sym (append-nil (bytes_of ws))) ∙ words_back ws [])

-- ---- bytes, from the words that they make

low-back : (a b : ℕ) → a < 256 → (a + 256 * b) % 256 ≡ a
low-back a b h = omega arith

high-back : (a b : ℕ) → a < 256 → (a + 256 * b) / 256 ≡ b
high-back a b h = omega arith

pub are_at : (l : List ℕ) (i : ℕ) → are_bytes l ≡ true → get_or l i 0 < 256
unfolding are_bytes
are_at [] i t = omega arith
are_at (x ∷ l) zero t = ltb-true x 256 (both (ltb x 256) (are_bytes l) t).0
are_at (x ∷ l) (suc i) t = are_at l i (both (ltb x 256) (are_bytes l) t).1

pub are-rest : (n : ℕ) (l : List ℕ) → are_bytes l ≡ true → are_bytes (drop n l) ≡ true
unfolding are_bytes
are-rest zero l t = t
are-rest (suc n) [] t = t
are-rest (suc n) (x ∷ l) t = are-rest n l (both (ltb x 256) (are_bytes l) t).1

-- n words of a list of bytes are its first 2n, and all of it where it has no more
pub bytes-front : (n : ℕ) (l : List ℕ) → 2 * n ≤ length l → are_bytes l ≡ true → bytes_of (words_from n l) ≡ take (2 * n) l
unfolding bytes_of words_from
bytes-front zero l e t = refl
bytes-front (suc n) [] e t = absurd (omega arith)
bytes-front (suc n) (a ∷ []) e t = absurd (omega arith)
bytes-front (suc n) (a ∷ b ∷ rest) e t =
    let h : a < 256 = are_at (a ∷ b ∷ rest) 0 t in
    let m : 2 * suc n ≡ suc (suc (2 * n)) = omega arith in
    let r : 2 * n ≤ length rest = omega arith in
    rw (m, low-back a b h, high-back a b h, bytes-front n rest r (are-rest 2 (a ∷ b ∷ rest) t))

pub bytes_back : (n : ℕ) (bytes : List ℕ) → length bytes ≡ 2 * n → are_bytes bytes ≡ true → bytes_of (words_from n bytes) ≡ bytes
bytes_back n bytes e t = bytes-front n bytes (omega arith) t ∙ take_all (2 * n) bytes (omega arith)

pub bytes-in-back : (bytes : List ℕ) → length bytes % 2 ≡ 0 → are_bytes bytes ≡ true → bytes_of (words_in bytes) ≡ bytes
unfolding words_in
bytes-in-back bytes e t = bytes_back (length bytes / 2) bytes (omega arith) t

-- ---- lists of words: none, two and more, joined, and of zeros

pub bytes-none : bytes_of [] ≡ []
unfolding bytes_of
bytes-none = refl

pub bytes_pair : (x y : ℕ) (ws : List ℕ) → bytes_of (x ∷ y ∷ ws) ≡ word_bytes x ++ word_bytes y ++ bytes_of ws
unfolding bytes_of
bytes_pair x y ws = refl

pub bytes-append : (a b : List ℕ) → bytes_of (a ++ b) ≡ bytes_of a ++ bytes_of b
unfolding bytes_of
bytes-append [] b = refl
bytes-append (w ∷ a) b = rw (bytes-append a b)

pub bytes-zeros : (n : ℕ) → bytes_of (replicate n 0) ≡ replicate (2 * n) 0
unfolding bytes_of
bytes-zeros zero = refl
bytes-zeros (suc n) = let m : 2 * suc n ≡ suc (suc (2 * n)) = omega arith in rw (bytes-zeros n, m)

-- ---- whole words

pub even-yes : (words : List ℕ) → length words % 2 ≡ 0 → even words ≡ true
unfolding even
even-yes words h = eq-eqb (length words % 2) 0 h

pub even-whole : (words : List ℕ) → even words ≡ true → length words % 2 ≡ 0
unfolding even
even-whole words e = eqb-true (length words % 2) 0 e

pub even-no : (words : List ℕ) → (length words % 2 ≡ 0 → ⊥) → even words ≡ false
unfolding even
even-no words h = ne_eqb (length words % 2) 0 h

-- ---- the words of some bytes, read into the first places of a buffer

module _ (bytes room : List ℕ) (h : length bytes / 2 ≤ length room) where
  pub lent-part : length (take (length bytes / 2) room) ≡ length bytes / 2
  lent-part = length-take-le (length bytes / 2) room h

  pub lent_fits : 2 * length (take (length bytes / 2) room) ≤ length bytes
  lent_fits = omega (arith, lent-part)

  module _ (last : List ℕ) (q : last ≡ words_from (length (take (length bytes / 2) room)) bytes) where
    pub read_all : take (length bytes / 2) (last ++ drop (length bytes / 2) room) ≡ words_in bytes
    read_all =
        let f : last ≡ words_from (length bytes / 2) bytes = q ∙ ap (λ (k : ℕ). words_from k bytes) lent-part in
        let m : length last ≡ length bytes / 2 = ap length f ∙ length-words (length bytes / 2) bytes in
        take_at last (drop (length bytes / 2) room) (length bytes / 2) m ∙ f ∙ sym (words-in bytes)

    pub read-part : length (take (length bytes / 2) (last ++ drop (length bytes / 2) room)) ≡ length bytes / 2
    read-part = ap length read_all ∙ ap length (words-in bytes) ∙ length-words (length bytes / 2) bytes
