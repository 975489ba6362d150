-- The label table: entries of place, length and byte address.
use Rattle.std.specs.Prelude.{ℕ, ◌+◌, List, [], ◌∷◌, Bool, false, Option, Some, None, length, take, drop, leb}
use Rattle.base.specs.Choice.{cond}
use Rattle.base.specs.Bytes.{same}
use Rattle.labels.specs.declared.Label.{Label}
use Rattle.labels.specs.declared.Found.{Found}

abbrev pub label : ℕ → ℕ → ℕ → Label
label place size address = record { place = place; length = size; address = address }

-- an entry that is not used
abbrev pub no_label : Label
no_label = label 0 0 0

-- does the name stand in the text from the place on, size bytes long? An entry running past that text names nothing
unfoldable pub names : List ℕ → ℕ → ℕ → List ℕ → Bool
names text place size name = cond (leb (place + size) (length text)) (same (take size (drop place text)) name) false

abbrev pub is_named : List ℕ → List ℕ → Label → Bool
is_named text name l = names text l.place l.length name

-- entry i, with its address
abbrev pub found_at : ℕ → ℕ → Found
found_at i a = record { index = i; address = a }

-- the first of equal names counts, and gives its address; the first of these entries is entry i
unfoldable pub find_from : List ℕ → List ℕ → ℕ → List Label → Option Found
find_from text name i [] = None
find_from text name i (l ∷ ls) = cond (is_named text name l) (Some (found_at i l.address)) (find_from text name (i + 1) ls)

unfoldable pub find : List ℕ → List ℕ → List Label → Option Found
find text name ls = find_from text name 0 ls
