-- Rules over a table's entries, whatever the entries are.
use Rattle.std.specs.Prelude.{Bool, true, not, ◌&&◌, List, [], ◌∷◌}
use Rattle.std.specs.List.{list_any}

-- some entry passes the test
unfoldable pub any : {A : Type 0} → (A → Bool) → List A → Bool
any test entries = list_any test entries

-- each entry is right by itself, and no pair of them meets
unfoldable pub sound : {A : Type 0} → (A → Bool) → (A → A → Bool) → List A → Bool
sound right meets [] = true
sound right meets (x ∷ rest) = right x && not (any (meets x) rest) && sound right meets rest
