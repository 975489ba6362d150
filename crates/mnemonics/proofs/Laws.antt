-- What the crates above may use: each row is found by its name in either case, computed once over the table, and a token
-- that is no row's name has no kind, by induction over the rows. Assumes nothing.
use Prim.Native.Nat.{ℕ, ◌+◌}
use mathlib.Core.Bool.{Bool, true, false, ◌||◌}
use mathlib.Core.Path.{◌≡◌, refl, ap}
use mathlib.Core.List.{List, [], ◌∷◌, map}
use Rattle.std.specs.Prelude.{Option, Some, None}
use Rattle.base.specs.Bytes.{same}
use Rattle.base.specs.Choice.{cond}
use Rattle.mnemonics.specs.Tables.{Row}
use Rattle.mnemonics.specs.declared.Kind.{Kind}
use Rattle.mnemonics.specs.Mnemonics.{rows, upper, kind_in, kind_of}

-- a capital letter in lower case
abbrev pub lower : ℕ → ℕ
lower b = b + 32

abbrev pub kinds : List (Row Kind) → List (Option Kind)
kinds = map (λ (r : Row Kind). Some r.value)

-- every one of the thirty names has the kind of its own row
pub row-found : map (λ (r : Row Kind). kind_of r.name) rows ≡ kinds rows
unfolding rows kind_of upper
row-found = refl

-- and so in lower case
pub row-found-lower : map (λ (r : Row Kind). kind_of (map lower r.name)) rows ≡ kinds rows
unfolding rows kind_of upper
row-found-lower = refl

-- two tokens that differ in case alone have one kind
pub either-case : (s t : List ℕ) → map upper s ≡ map upper t → kind_of s ≡ kind_of t
unfolding kind_of
either-case s t e = ap (kind_in rows) e

-- some row has this name
abbrev pub listed : List (Row Kind) → List ℕ → Bool
listed [] name = false
listed (r ∷ rs) name = same name r.name || listed rs name

unlisted : (rs : List (Row Kind)) (name : List ℕ) → listed rs name ≡ false → kind_in rs name ≡ None
unlisted [] name e = refl
unlisted (r ∷ rs) name e = go (same name r.name) (unlisted rs name) e
  where
    go : (t : Bool) → (listed rs name ≡ false → kind_in rs name ≡ None) → (t || listed rs name) ≡ false → cond t (Some r.value) (kind_in rs name) ≡ None
    go true k e = let z : true ≡ false = e in cc
    go false k e = k e

-- a token that is no row's name has no kind, as the empty one
pub unlisted-none : (token : List ℕ) → listed rows (map upper token) ≡ false → kind_of token ≡ None
unfolding kind_of
unlisted-none token e = unlisted rows (map upper token) e

pub empty-none : kind_of [] ≡ None
unfolding rows
empty-none = unlisted-none [] refl
