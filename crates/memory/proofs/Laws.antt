-- What the crates above may use of bytes and stores, without opening the definitions: it all follows from two addresses
-- having two bytes and a store changing no length. Assumes nothing.
use mathlib.Core.Path.{◌≡◌, refl, sym, ap, ◌∙◌}
use mathlib.Core.Bool.{Bool, true, false}
use Prim.Native.Nat.{ℕ, ◌<◌}
use lib.ListN.{length, get_or, drop}
use Rattle.std.specs.Prelude.{Some}
use Rattle.map.specs.Places.{place, mapped, succeeds, somewhere}
use Rattle.map.specs.Valid.{valid}
use Rattle.map.specs.declared.Map.{Map}
use Rattle.map.specs.declared.Place.{Place}
use Rattle.map.specs.declared.Place.TheVariants.{Linear}
use Rattle.map.proofs.PlaceLaws.{SameByte, Within}
use Rattle.map.proofs.Laws.{place-within, target-within, place-one, target-place, mapped-rule, takes-rule, valid-length}
use Rattle.memory.specs.Bytes.{Lent, get, put, place_in, target_in, read_byte, takes, store_byte}
use Rattle.memory.proofs.ByteLaws.{put-mem, put-dev, get-put, get-put-other, put_back, put-none, get-some, get-linear, put-far, found, get-found}

-- the same numbers of bytes are lent
pub record SameLengths (s t : Lent) : Type 0 where
  pub mem : length s.mem ≡ length t.mem
  pub dev : length s.dev ≡ length t.dev

pub same-lengths : (s : Lent) → SameLengths s s
same-lengths s = record { mem = refl; dev = refl }

pub then-lengths : {s t u : Lent} → SameLengths s t → SameLengths t u → SameLengths s u
then-lengths a b = record { mem = a.mem ∙ b.mem; dev = a.dev ∙ b.dev }

-- ---- what depends on the lengths alone

module _ (m : Map) (s t : Lent) (e : SameLengths s t) (a : ℕ) where
  pub place-lengths : place_in m s a ≡ place_in m t a
  unfolding place_in
  place-lengths = rw (e.mem, e.dev)

  pub target-lengths : target_in m s a ≡ target_in m t a
  unfolding target_in
  target-lengths = rw (e.mem, e.dev)

  -- whether an address takes a store does not depend on the bytes
  pub takes-lengths : takes m s a ≡ takes m t a
  unfolding takes
  takes-lengths = ap somewhere target-lengths

-- ---- places over these bytes

placed-within : (m : Map) (s : Lent) (a : ℕ) → Within (place_in m s a) (length s.mem) (length s.dev)
unfolding place_in
placed-within m s a = place-within m (length s.mem) (length s.dev) a

-- and so is where a store goes
sent-within : (m : Map) (s : Lent) (a : ℕ) → Within (target_in m s a) (length s.mem) (length s.dev)
unfolding target_in
sent-within m s a = target-within m (length s.mem) (length s.dev) a

-- two addresses with one byte are one address
pub placed_one : (m : Map) (s : Lent) (a b : ℕ) → SameByte (place_in m s a) (place_in m s b) → a ≡ b
unfolding place_in
placed_one m s a b q = place-one m (length s.mem) (length s.dev) a b q

-- a linear byte is read there
pub read-placed : (m : Map) (s : Lent) (a : ℕ) → place m (length s.mem) (length s.dev) a ≡ Linear a → a < length s.mem → read_byte m s a ≡ Some (get_or s.mem a 0, Linear a)
unfolding read_byte place_in
read-placed m s a e h = rw e (get-linear s a h)

-- a byte is read exactly where 01 says that the address is mapped
pub read_mapped : (m : Map) (s : Lent) (a : ℕ) → valid m s.dev ≡ true → found (read_byte m s a) ≡ mapped m (length s.mem) a
unfolding read_byte place_in
read_mapped m s a v =
    get-found (place m (length s.mem) (length s.dev) a) s (place-within m (length s.mem) (length s.dev) a)
    ∙ mapped-rule m s.dev v (length s.mem) a

-- ---- stores

-- an address takes a store exactly if 01 says that it succeeds
pub takes-valid : (m : Map) (s : Lent) (a : ℕ) → valid m s.dev ≡ true → takes m s a ≡ succeeds m (length s.mem) a
unfolding takes target_in
takes-valid m s a v = takes-rule m s.dev v (length s.mem) a

-- storing at the place that was looked up is storing at the address
pub stored_at : (m : Map) (s : Lent) (a v : ℕ) (p : Place) → p ≡ target_in m s a → put p s v ≡ store_byte m s a v
unfolding store_byte
stored_at m s a v p e = rw e

-- a store that is not taken changes nothing
pub refused-store : (m : Map) (s : Lent) (a v : ℕ) → takes m s a ≡ false → store_byte m s a v ≡ s
unfolding takes store_byte
refused-store m s a v = put-none (target_in m s a) s v

module _ (m : Map) (s : Lent) (a v : ℕ) where
  -- a store changes no length
  pub store-lengths : SameLengths (store_byte m s a v) s
  unfolding store_byte
  store-lengths = record { mem = put-mem (target_in m s a) s v; dev = put-dev (target_in m s a) s v }

  -- lent bytes past 65,535 are never touched
  pub store-far : drop 65536 (store_byte m s a v).mem ≡ drop 65536 s.mem
  unfolding store_byte
  store-far = put-far (target_in m s a) s v (sent-within m s a)

  -- it leaves valid tables valid
  pub store-valid : valid m (store_byte m s a v).dev ≡ valid m s.dev
  store-valid = valid-length m (store_byte m s a v).dev s.dev store-lengths.dev

  -- and changes nothing of what takes a store
  pub takes-kept : (b : ℕ) → takes m (store_byte m s a v) b ≡ takes m s b
  takes-kept b = takes-lengths m (store_byte m s a v) s store-lengths b

  taken-somewhere : takes m s a ≡ true → somewhere (target_in m s a) ≡ true
  unfolding takes
  taken-somewhere h = h

  -- the same once a store was made
  store-again : (x : ℕ) (p : Place) → p ≡ target_in m s a → put p (store_byte m s a v) x ≡ store_byte m (store_byte m s a v) a x
  store-again x p e = stored_at m (store_byte m s a v) a x p (e ∙ sym (target-lengths m (store_byte m s a v) s store-lengths a))

  store-refused-again : (x : ℕ) → takes m s a ≡ false → store_byte m (store_byte m s a v) a x ≡ s
  store-refused-again x h = refused-store m (store_byte m s a v) a x (takes-kept a ∙ h) ∙ refused-store m s a v h

  taken-place : takes m s a ≡ true → target_in m s a ≡ place_in m s a
  unfolding takes target_in place_in
  taken-place h = target-place m (length s.mem) (length s.dev) a h

  -- reading at the place that takes a store is reading at the address
  pub read-target : (p : Place) → p ≡ target_in m s a → takes m s a ≡ true → get p s ≡ read_byte m s a
  unfolding read_byte
  read-target p e h = ap (λ (q : Place). get q s) (e ∙ taken-place h)

  -- what is read at another address is as before
  pub read-other : (b : ℕ) → (b ≡ a → ⊥) → read_byte m (store_byte m s a v) b ≡ read_byte m s b
  unfolding read_byte
  read-other b n = rw (place-lengths m (store_byte m s a v) s store-lengths b) (go (takes m s a) refl)
    where
      go : (t : Bool) → takes m s a ≡ t → get (place_in m s b) (store_byte m s a v) ≡ get (place_in m s b) s
      go true h = rw (← stored_at m s a v (place_in m s a) (sym (taken-place h))) (get-put-other (place_in m s b) (place_in m s a) s v (λ q. n (placed_one m s b a q)))
      go false h = rw (refused-store m s a v h)

  -- reading what was stored gives it
  pub read-own : takes m s a ≡ true → read_byte m (store_byte m s a v) a ≡ Some (v, place_in m s a)
  unfolding read_byte
  read-own h =
      rw (place-lengths m (store_byte m s a v) s store-lengths a, ← stored_at m s a v (place_in m s a) (sym (taken-place h)))
      (get-put (place_in m s a) s v (placed-within m s a) (ap somewhere (sym (taken-place h)) ∙ taken-somewhere h))

  -- putting the old byte back undoes a store, made or not
  pub store-undo : (x : ℕ) (p : Place) → read_byte m s a ≡ Some (x, p) → store_byte m (store_byte m s a v) a x ≡ s
  unfolding read_byte
  store-undo x p e = go (takes m s a) refl
    where
      go : (t : Bool) → takes m s a ≡ t → store_byte m (store_byte m s a v) a x ≡ s
      go true h =
          sym (store-again x (place_in m s a) (sym (taken-place h))) ∙ ap (λ (u : Lent). put (place_in m s a) u x) (sym (stored_at m s a v (place_in m s a) (sym (taken-place h)))) ∙ put_back (place_in m s a) s v x p e
      go false h = store-refused-again x h

  -- an address that takes a store can be read
  pub takes-mapped : takes m s a ≡ true → (x : ℕ) × (read_byte m s a ≡ Some (x, place_in m s a))
  unfolding read_byte
  takes-mapped h = get-some (place_in m s a) s (placed-within m s a) (ap somewhere (sym (taken-place h)) ∙ taken-somewhere h)
