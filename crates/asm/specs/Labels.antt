-- A label defined, and the references that waited for it.
use Rattle.std.specs.Prelude.{ℕ, List, [], ◌∷◌, ◌++◌, Bool, Option, Some, None, ltb, length, take, drop, set}
use Rattle.base.specs.Choice.{cond}
use Rattle.base.specs.Told.{Told, is, no, ◌>>=◌}
use Rattle.parser.specs.References.{resolved}
use Rattle.labels.specs.declared.Label.{Label}
use Rattle.labels.specs.declared.Open.{Open}
use Rattle.labels.specs.declared.Found.{Found}
use Rattle.labels.specs.Labels.{names, find}
use Rattle.asm.specs.Words.{word_of}

-- the part of a text from a place on
abbrev pub part : List ℕ → ℕ → ℕ → List ℕ
part text place size = take size (drop place text)

-- a later definition of a name overwrites its entry, place included; a new name is 27 where the table is full
abbrev pub entered : ℕ → Label → List Label → Option Found → Told (List Label)
entered room l labels (Some f) = is (set labels f.index l)
entered room l labels None = cond (ltb (length labels) room) (is (labels ++ l ∷ [])) (no 27)

unfoldable pub define : List ℕ → ℕ → Label → List Label → Told (List Label)
define text room l labels = entered room l labels (find text (part text l.place l.length) labels)

-- 28 where 512 are open
unfoldable pub add_open : Open → List Open → Told (List Open)
add_open o waiting = cond (ltb (length waiting) 512) (is (waiting ++ o ∷ [])) (no 28)

-- words, and the references that are still open
pub record Patched : Type 0 where
  pub words : List ℕ
  pub waiting : List Open

abbrev pub patched_of : List ℕ → List Open → Patched
patched_of words waiting = record { words = words; waiting = waiting }

abbrev pub keep : Open → Patched → Patched
keep o p = patched_of p.words (o ∷ p.waiting)

-- each open reference to the name is replaced by its instruction, in strict assembly by the strict rule; the others stay
unfoldable pub patch : Bool → List ℕ → List ℕ → ℕ → List Open → List ℕ → Told Patched
patch strict text name address [] words = is (patched_of words [])
patch strict text name address (o ∷ waiting) words =
    cond (names text o.place o.length name)
    (word_of strict (resolved o.reference address) >>= λ w. patch strict text name address waiting (set words o.word.0 w))
    (patch strict text name address waiting words >>= λ p. is (keep o p))
