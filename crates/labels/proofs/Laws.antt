-- What the crates above may use of a search, without opening the definitions: what is found is the first entry with the name. Assumes nothing.
use Prim.Native.Nat.{ℕ, ◌<◌}
use mathlib.Core.Path.{◌≡◌, refl}
use mathlib.Core.Bool.{true, false}
use mathlib.Core.List.{List}
use lib.ListN.{length, get_or}
use Rattle.std.specs.Prelude.{Some, None}
use Rattle.labels.specs.declared.Label.{Label}
use Rattle.labels.specs.declared.Open.{Open}
use Rattle.labels.specs.Labels.{label, is_named, found_at, find}
use Rattle.labels.specs.Opens.{open_to}
use Rattle.labels.proofs.FindLaws.{found, found-address, passed}

-- ---- the first of equal names counts

module _ (text name : List ℕ) (ls : List Label) (i a : ℕ) (e : find text name ls ≡ Some (found_at i a)) where
  pub find-lt : i < length ls
  find-lt = (found text name ls i a e).lt

  pub find-named : (d : Label) → is_named text name (get_or ls i d) ≡ true
  find-named d = (found text name ls i a e).named d

  pub find_first : (j : ℕ) (d : Label) → j < i → is_named text name (get_or ls j d) ≡ false
  find_first j d h = (found text name ls i a e).earlier j d h

  pub find-address : (d : Label) → (get_or ls i d).address ≡ a
  find-address d = found-address text name ls i a e d

pub find-nothing : (text name : List ℕ) (ls : List Label) → find text name ls ≡ None → (j : ℕ) (d : Label) → j < length ls → is_named text name (get_or ls j d) ≡ false
unfolding find
find-nothing text name ls e = passed text name ls 0 e

-- ---- an entry is its fields

pub label-fields : (l : Label) → label l.place l.length l.address ≡ l
label-fields l = refl

pub open-fields : (o : Open) → open_to o.place o.length o.word.0 o.reference ≡ o
open-fields o = refl
