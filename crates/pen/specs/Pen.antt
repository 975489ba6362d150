-- A buffer that is being written, and the position of the next byte. A byte past the buffer's end is counted and not written, so
-- that writing into a buffer with no room counts. The count stops at the largest number of 64 bits, so that no writer shows
-- that it stays below; every text is far shorter.
use Rattle.std.specs.Prelude.{ℕ, ◌+◌, List, [], ◌∷◌, ltb, set}
use Rattle.base.specs.Choice.{cond}

pub data Pen : Type 0 where
  pen : List ℕ → ℕ → Pen

unfoldable pub pushed : Pen → ℕ → Pen
pushed (pen out at) b = cond (ltb at 18446744073709551615) (pen (set out at b) (at + 1)) (pen out at)

unfoldable pub wrote : Pen → List ℕ → Pen
wrote p [] = p
wrote p (b ∷ bs) = wrote (pushed p b) bs
