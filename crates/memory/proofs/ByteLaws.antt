-- Reading and storing at places: each place has its own byte, so a store is seen there and nowhere else. Assumes nothing.
use mathlib.Core.Path.{◌≡◌, refl, sym, ap, ◌∙◌}
use mathlib.Core.Bool.{Bool, true, false}
use mathlib.Core.List.{List}
use Prim.Native.Nat.{ℕ, ◌<◌}
use native.Mathlib.Omega.{arith}
use lib.Dec.{ltb}
use borrow.Author.Tests.{lt-ltb}
use lib.ListN.{length, get_or, set, drop, length-set}
use lib.Seq.{drop-set-lt, get_or-set_same, get_or-set_other, set-get_or, set-set}
use Rattle.std.specs.Prelude.{Option, Some, None}
use Rattle.base.specs.Choice.{cond}
use Rattle.map.specs.Places.{somewhere}
use Rattle.map.specs.declared.Place.{Place}
use Rattle.map.specs.declared.Place.TheVariants.{Linear, Bank, Nowhere}
use Rattle.base.proofs.Tests.{clash}
use Rattle.map.proofs.PlaceLaws.{SameByte, Within}
use Rattle.map.proofs.Laws.{linear-somewhere, bank-somewhere, nowhere-not}
use Rattle.memory.specs.Bytes.{Lent, lent, read_in, get, put}

-- ---- one buffer

module _ (bytes : List ℕ) (i : ℕ) (p : Place) where
  read-in-own : (v : ℕ) → i < length bytes → read_in (set bytes i v) i p ≡ Some (v, p)
  unfolding read_in
  read-in-own v h = rw (length-set, lt-ltb i (length bytes) h, get_or-set_same bytes i v 0 h)

  read-in-other : (j v : ℕ) → (i ≡ j → ⊥) → read_in (set bytes j v) i p ≡ read_in bytes i p
  unfolding read_in
  read-in-other j v n = rw (length-set, get_or-set_other bytes j i v 0 n)

  read-in-byte : (x : ℕ) (q : Place) → read_in bytes i p ≡ Some (x, q) → get_or bytes i 0 ≡ x
  unfolding read_in
  read-in-byte x q = go (ltb i (length bytes))
    where
      go : (t : Bool) → cond {A = Option (ℕ × Place)} t (Some (get_or bytes i 0, p)) None ≡ Some (x, q) → get_or bytes i 0 ≡ x
      go true e = let f : ◌≡◌ {A = ℕ × Place} (get_or bytes i 0, p) (x, q) = cc in ap (λ (y : ℕ × Place). y.0) f
      go false e = let z : ◌≡◌ {A = ℕ} 0 1 = cc in omega arith

  put-again : (v x : ℕ) (q : Place) → read_in bytes i p ≡ Some (x, q) → set (set bytes i v) i x ≡ bytes
  put-again v x q e = set-set bytes i v x ∙ ap (set bytes i) (sym (read-in-byte x q e)) ∙ set-get_or bytes i 0

-- ---- both

pub put-mem : (q : Place) (s : Lent) (v : ℕ) → length (put q s v).mem ≡ length s.mem
unfolding put
put-mem (Linear i) s v = simp length-set
put-mem (Bank n o i) s v = refl
put-mem Nowhere s v = refl

pub put-dev : (q : Place) (s : Lent) (v : ℕ) → length (put q s v).dev ≡ length s.dev
unfolding put
put-dev (Linear i) s v = refl
put-dev (Bank n o i) s v = simp length-set
put-dev Nowhere s v = refl

-- lent bytes past 65,535 stay
pub put-far : (q : Place) (s : Lent) (v : ℕ) → Within q (length s.mem) (length s.dev) → drop 65536 (put q s v).mem ≡ drop 65536 s.mem
unfolding put
put-far (Linear i) s v w = drop-set-lt 65536 s.mem i v (omega (arith, w))
put-far (Bank n o i) s v w = refl
put-far Nowhere s v w = refl

pub get-put : (q : Place) (s : Lent) (v : ℕ) → Within q (length s.mem) (length s.dev) → somewhere q ≡ true → get q (put q s v) ≡ Some (v, q)
unfolding get put
get-put (Linear i) s v w h = read-in-own s.mem i (Linear i) v (omega (arith, w))
get-put (Bank n o i) s v w h = read-in-own s.dev i (Bank n o i) v w
get-put Nowhere s v w h = clash (sym nowhere-not ∙ h)

pub get-put-other : (p q : Place) (s : Lent) (v : ℕ) → (SameByte p q → ⊥) → get p (put q s v) ≡ get p s
unfolding get put
get-put-other (Linear i) (Linear j) s v n = read-in-other s.mem i (Linear i) j v n
get-put-other (Linear i) (Bank k q j) s v n = refl
get-put-other (Linear i) Nowhere s v n = refl
get-put-other (Bank k q i) (Linear j) s v n = refl
get-put-other (Bank k q i) (Bank k' q' j) s v n = read-in-other s.dev i (Bank k q i) j v n
get-put-other (Bank k q i) Nowhere s v n = refl
get-put-other Nowhere q s v n = refl

pub put_back : (q : Place) (s : Lent) (v x : ℕ) (p : Place) → get q s ≡ Some (x, p) → put q (put q s v) x ≡ s
unfolding get put
put_back (Linear i) s v x p e = ap (λ (l : List ℕ). lent l s.dev) (put-again s.mem i (Linear i) v x p e)
put_back (Bank n o i) s v x p e = ap (λ (l : List ℕ). lent s.mem l) (put-again s.dev i (Bank n o i) v x p e)
put_back Nowhere s v x p e = refl

pub put-none : (q : Place) (s : Lent) (v : ℕ) → somewhere q ≡ false → put q s v ≡ s
unfolding put
put-none (Linear i) s v e = clash (sym e ∙ linear-somewhere i)
put-none (Bank n o i) s v e = clash (sym e ∙ bank-somewhere n o i)
put-none Nowhere s v e = refl

-- a byte is at each place within the bytes that are lent
pub get-some : (q : Place) (s : Lent) → Within q (length s.mem) (length s.dev) → somewhere q ≡ true → (x : ℕ) × (get q s ≡ Some (x, q))
unfolding get read_in
get-some (Linear i) s w h = (get_or s.mem i 0, rw (lt-ltb i (length s.mem) (omega (arith, w))))
get-some (Bank n o i) s w h = (get_or s.dev i 0, rw (lt-ltb i (length s.dev) w))
get-some Nowhere s w h = clash (sym nowhere-not ∙ h)

-- whether a byte was found
abbrev pub found : Option (ℕ × Place) → Bool
found (Some (v, p)) = true
found None = false

-- it is where there is a place
pub get-found : (q : Place) (s : Lent) → Within q (length s.mem) (length s.dev) → found (get q s) ≡ somewhere q
unfolding get read_in
get-found (Linear i) s w = rw (lt-ltb i (length s.mem) (omega (arith, w))) (sym (linear-somewhere i))
get-found (Bank n o i) s w = rw (lt-ltb i (length s.dev) w) (sym (bank-somewhere n o i))
get-found Nowhere s w = sym nowhere-not

pub get-linear : (s : Lent) (i : ℕ) → i < length s.mem → get (Linear i) s ≡ Some (get_or s.mem i 0, Linear i)
unfolding get read_in
get-linear s i h = rw (lt-ltb i (length s.mem) h)
