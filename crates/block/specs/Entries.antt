-- A table's entries are two words each, one after the other: as words, and as they are read from bytes.
use Rattle.std.specs.Prelude.{ℕ, zero, suc, ◌+◌, ◌≡◌, List, [], ◌∷◌}
use Rattle.wordbytes.specs.Words.{word_at}

-- the words of entries, by what the first and the second word of one are
unfoldable pub entry_words : {E : Type 0} → (E → ℕ) → (E → ℕ) → List E → List ℕ
entry_words first second [] = []
entry_words first second (e ∷ rest) = first e ∷ second e ∷ entry_words first second rest

-- n entries of two words each, from byte i on, by the entry that two words make
unfoldable pub entries_from : {E : Type 0} → (ℕ → ℕ → E) → ℕ → List ℕ → ℕ → List E
entries_from of zero b i = []
entries_from of (suc n) b i = of (word_at b i) (word_at b (i + 2)) ∷ entries_from of n b (i + 4)

-- an entry is its two words
pub record Pairs {E : Type 0} (first second : E → ℕ) (of : ℕ → ℕ → E) : Type 0 where
  pub back : (e : E) → of (first e) (second e) ≡ e
  pub first_of : (a b : ℕ) → first (of a b) ≡ a
  pub second_of : (a b : ℕ) → second (of a b) ≡ b
