-- What is read at an address, and what a store leaves.
use Rattle.std.specs.Prelude.{ℕ, Bool, List, ltb, length, get_or, set, Option, Some, None}
use Rattle.base.specs.Choice.{cond}
use Rattle.map.specs.Places.{place, target, somewhere}
use Rattle.map.specs.declared.Map.{Map}
use Rattle.map.specs.declared.Place.{Place}
use Rattle.map.specs.declared.Place.TheVariants.{Linear, Bank, Nowhere}

-- the bytes that are lent: the linear ones and the devices'
pub record Lent : Type 0 where
  pub mem : List ℕ
  pub dev : List ℕ

abbrev pub lent : List ℕ → List ℕ → Lent
lent m d = record { mem = m; dev = d }

-- the byte at an index of a buffer, with the place p that it is of
unfoldable pub read_in : List ℕ → ℕ → Place → Option (ℕ × Place)
read_in bytes i p = cond (ltb i (length bytes)) (Some (get_or bytes i 0, p)) None

unfoldable pub get : Place → Lent → Option (ℕ × Place)
get (Linear i) s = read_in s.mem i (Linear i)
get (Bank n o i) s = read_in s.dev i (Bank n o i)
get Nowhere s = None

-- nothing changes past the end of the bytes that are lent
unfoldable pub put : Place → Lent → ℕ → Lent
put (Linear i) s v = lent (set s.mem i v) s.dev
put (Bank n o i) s v = lent s.mem (set s.dev i v)
put Nowhere s v = s

-- where address a is, and where a store to it goes, over these bytes
unfoldable pub place_in : Map → Lent → ℕ → Place
place_in m s a = place m (length s.mem) (length s.dev) a

unfoldable pub target_in : Map → Lent → ℕ → Place
target_in m s a = target m (length s.mem) (length s.dev) a

unfoldable pub read_byte : Map → Lent → ℕ → Option (ℕ × Place)
read_byte m s a = get (place_in m s a) s

-- a store at the address is made
unfoldable pub takes : Map → Lent → ℕ → Bool
takes m s a = somewhere (target_in m s a)

-- the bytes after a store, made or not
unfoldable pub store_byte : Map → Lent → ℕ → ℕ → Lent
store_byte m s a v = put (target_in m s a) s v
