-- One turn of a loop over the entries in use, at entry i, and its end: of a slice of them, or of the first k of a table of eight. Assumes nothing.
use mathlib.Core.Path.{◌≡◌}
use mathlib.Core.Bool.{Bool, true, false}
use mathlib.Core.List.{List, [], ◌∷◌}
use Prim.Native.Nat.{ℕ, ◌+◌, ◌-◌, ◌<◌, ◌≤◌, min}
use native.Mathlib.Numerals.{add-one}
use native.Mathlib.Omega.{arith}
use lib.ListN.{length, get_or, take, drop, drop_of_length-le, length-take}
use lib.Seq.{drop-cons, get_or-take}
use Rattle.std.proofs.lemmas.List.{at_drop_more, at_drop_all}
use Rattle.map.specs.Tables.{any}
use Rattle.map.specs.Devices.{device_covers, device_size, total}
use Rattle.map.specs.Places.{in_bank, in_linear, place_from}
use Rattle.map.specs.declared.Device.{Device}

module _ (l : List Device) (i : ℕ) where
  pub total_turn : (d : Device) → i < length l → total (drop i l) ≡ device_size (get_or l i d) + total (drop (i + 1) l)
  unfolding total
  total_turn d h = at_drop_more total l i d h

  pub total_end : length l ≤ i → total (drop i l) ≡ 0
  unfolding total
  total_end h = at_drop_all total l i h

module _ {A : Type 0} (l : List A) (k i : ℕ) (e : length l ≡ 8) where
  -- entry i of the first k, and the entries after it
  used-cons : (d : A) → i < min k 8 → drop i (take k l) ≡ get_or l i d ∷ drop (i + 1) (take k l)
  used-cons d h =
      let g : i < length (take k l) = rw (length-take, e) h in
      let f : i < k = omega arith in
      rw (drop-cons (take k l) i d, get_or-take k l i d f, add-one)

  used-end : min k 8 ≤ i → drop i (take k l) ≡ []
  used-end h =
      let g : length (take k l) ≤ i = rw (length-take, e) h in
      drop_of_length-le (take k l) g

  module _ (test : A → Bool) where
    pub any-hit : (d : A) → i < min k 8 → test (get_or l i d) ≡ true → any test (drop i (take k l)) ≡ true
    unfolding any
    any-hit d h f = rw (used-cons d h, f)

    pub any-miss : (d : A) → i < min k 8 → test (get_or l i d) ≡ false → any test (drop i (take k l)) ≡ any test (drop (i + 1) (take k l))
    unfolding any
    any-miss d h f = rw (used-cons d h, f)

    pub any-end : min k 8 ≤ i → any test (drop i (take k l)) ≡ false
    unfolding any
    any-end h = rw (used-end h)

module _ (l : List Device) (k i : ℕ) (e : length l ≡ 8) (base mem dev a : ℕ) where
  pub place-hit : (d : Device) → i < min k 8 → device_covers a (get_or l i d) ≡ true → place_from (drop i (take k l)) i base mem dev a ≡ in_bank i (a - (get_or l i d).start) base dev
  unfolding place_from
  place-hit d h f = rw (used-cons l k i e d h, f)

  pub place-miss : (d : Device) → i < min k 8 → device_covers a (get_or l i d) ≡ false → (n : ℕ) → n ≡ device_size (get_or l i d) → place_from (drop i (take k l)) i base mem dev a ≡ place_from (drop (i + 1) (take k l)) (i + 1) (base + n) mem dev a
  unfolding place_from
  place-miss d h f n g = rw (used-cons l k i e d h, f, g)

  pub place_end : min k 8 ≤ i → place_from (drop i (take k l)) i base mem dev a ≡ in_linear mem a
  unfolding place_from
  place_end h = rw (used-end l k i e h)
