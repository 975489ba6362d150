-- Words travel as bytes, the low byte of each first.
use Rattle.std.specs.Prelude.{ℕ, zero, suc, ◌+◌, ◌/◌, ◌%◌, Bool, true, ◌&&◌, List, [], ◌∷◌, eqb, ltb, length, get_or, drop}
use Rattle.base.specs.Words.{word_of, low_of, high_of}

-- ---- to bytes

abbrev pub word_bytes : ℕ → List ℕ
word_bytes w = low_of w ∷ high_of w ∷ []

unfoldable pub bytes_of : List ℕ → List ℕ
bytes_of [] = []
bytes_of (w ∷ rest) = low_of w ∷ high_of w ∷ bytes_of rest

-- ---- and from them

-- the word at byte i and the next one, and n words from the start on
abbrev pub word_at : List ℕ → ℕ → ℕ
word_at bytes i = word_of (get_or bytes i 0) (get_or bytes (i + 1) 0)

unfoldable pub words_from : ℕ → List ℕ → List ℕ
words_from zero bytes = []
words_from (suc n) bytes = word_at bytes 0 ∷ words_from n (drop 2 bytes)

-- all that a buffer of an even length holds
unfoldable pub words_in : List ℕ → List ℕ
words_in bytes = words_from (length bytes / 2) bytes

-- are there bytes for whole words?
unfoldable pub even : List ℕ → Bool
even bytes = eqb (length bytes % 2) 0

-- ---- a list whose numbers are bytes

unfoldable pub are_bytes : List ℕ → Bool
are_bytes [] = true
are_bytes (b ∷ rest) = ltb b 256 && are_bytes rest
