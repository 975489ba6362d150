-- The word of an instruction, plain or strict, and its place in the output.
use Rattle.std.specs.Prelude.{ℕ, List, [], ◌∷◌, ◌++◌, Bool, not, ◌&&◌, ltb, length}
use Rattle.base.specs.Choice.{cond}
use Rattle.base.specs.Order.{Refusing, ◌when◌, passing}
use Rattle.base.specs.Told.{Told, is, no, ◌>>=◌}
use Rattle.instruction.specs.declared.Instruction.{Instruction}
use Rattle.instruction.specs.Encode.{encode}
use Rattle.instruction.specs.Fits.{fits, decodable}

-- what strict assembly refuses: 30 exactly if a field exceeds its width, then 32 exactly if no word says an instruction of this form
unfoldable pub strict_order : Instruction → List Refusing
strict_order i = 30 when not (fits i) ∷ 32 when not (decodable i) ∷ []

unfoldable pub strict_word : Instruction → Told ℕ
strict_word i = passing (strict_order i) (encode i)

-- plain assembly masks each field
unfoldable pub word_of : Bool → Instruction → Told ℕ
word_of strict i = cond strict (strict_word i) (is (encode i))

-- one word more: 29 where the output's room, or 32,767 words, are used
unfoldable pub add_word : ℕ → ℕ → List ℕ → Told (List ℕ)
add_word room w words = cond (ltb (length words) room && ltb (length words) 32767) (is (words ++ w ∷ [])) (no 29)

-- the word of an instruction more: 30, 32, then 29
unfoldable pub add_instruction : Bool → ℕ → Instruction → List ℕ → Told (List ℕ)
add_instruction strict room i words = word_of strict i >>= λ w. add_word room w words
