-- "Marked for proof", from the text on: lines as 01 writes them, and the words that it says they become; and how strict assembly ends
-- around request 2's CJP. That each text ends as its row says is one statement for either list (proofs/MarkedLaw.antt).
use Rattle.std.specs.Prelude.{ℕ, true, false, List, [], ◌∷◌}
use Rattle.base.specs.Bytes.{bytes}
use Rattle.asm.specs.Assemble.{Outcome, refused, outcome, words_of}

pub record Row : Type 0 where
  pub text : List ℕ
  pub words : List ℕ

abbrev pub row : List ℕ → List ℕ → Row
row text words = record { text = text; words = words }

-- 01's seven, and a label that is defined after the line that refers to it
abbrev pub marked : List Row
marked =
    row (bytes "MOV A, #5") (0x0501 ∷ [])
    ∷ row (bytes "MOV C, #300") (0x2C21 ∷ [])
    ∷ row (bytes "JMP #2047") (0xFFE6 ∷ [])
    ∷ row (bytes "JMP #2048") (0x0006 ∷ [])
    ∷ row (bytes "CJP A") (0x0015 ∷ [])
    ∷ row (bytes "SQRTR A, B, C") (0x470A ∷ [])
    ∷ row (bytes "STR A, [B #31]") (0xFC84 ∷ [])
    ∷ row (bytes "JMP end\nDBG\nend:") (0x0086 ∷ 0x0000 ∷ [])
    ∷ []

-- the words of a text in plain assembly, with room for two words and one label
abbrev pub assembled : List ℕ → List ℕ
assembled text = words_of (outcome false text 2 1)

-- ---- strictly, with no room for a word: parsing, 30 and 32 come before 29, and a label named A makes no difference

pub record Ending : Type 0 where
  pub text : List ℕ
  pub ends : Outcome

abbrev pub ending : List ℕ → Outcome → Ending
ending text ends = record { text = text; ends = ends }

abbrev pub endings : List Ending
endings =
    ending (bytes "CJP A") (refused 32 1)
    ∷ ending (bytes "; on a match\nA:\ncjp A") (refused 32 3)
    ∷ ending (bytes "CJP FLAGS") (refused 32 1)
    ∷ ending (bytes "CJP A B") (refused 22 1)
    ∷ ending (bytes "CJP #2048") (refused 30 1)
    ∷ ending (bytes "CJP #2047") (refused 29 1)
    ∷ ending (bytes "CJP a") (refused 29 1)
    ∷ ending (bytes "JMP A") (refused 29 1)
    ∷ []

abbrev pub strictly : List ℕ → Outcome
strictly text = outcome true text 0 1
