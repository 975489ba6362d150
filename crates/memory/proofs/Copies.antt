-- One turn of reading memory out, each answer with what it leaves in the buffer, and how large a count can be. Assumes nothing.
use mathlib.Core.Path.{◌≡◌, refl, sym, ap, ◌∙◌}
use mathlib.Core.Bool.{Bool, true, false}
use mathlib.Core.List.{List, [], ◌∷◌, ◌++◌, append-nil, append_assoc}
use Prim.Native.Nat.{ℕ, zero, suc, ◌+◌, ◌-◌, ◌≤◌, ◌<◌}
use native.Mathlib.Numerals.{add-one}
use native.Mathlib.Omega.{arith}
use lib.Dec.{eqb}
use lib.ListN.{length, set, take, drop, take-append-drop}
use lib.Seq.{length-take-le, take-suc-set, drop-set-lt, drop-drop}
use Rattle.std.specs.Prelude.{Option, Some, None}
use Rattle.base.specs.Choice.{cond}
use Rattle.map.specs.declared.Map.{Map}
use Rattle.map.specs.declared.Place.{Place}
use Rattle.memory.specs.Bytes.{Lent, read_byte}
use Rattle.memory.specs.Blocks.{until_unmapped, read_bytes, over, numbered, counting}

-- i bytes are copied, and the rest of the buffer is as it was
pub record Copied (m : Map) (s : Lent) (start size : ℕ) (out₀ out : List ℕ) (i : ℕ) : Type 0 where
  pub front : read_bytes m s start size ≡ take i out ++ read_bytes m s (start + i) (size - i)
  pub back : drop i out ≡ drop i out₀

module _ (m : Map) (s : Lent) (start size : ℕ) where
  pub copied_none : (out : List ℕ) → Copied m s start size out out 0
  copied_none out =
      let e : start + 0 ≡ start = omega arith in
      let f : size - 0 ≡ size = omega arith in
      record { front = rw (e, f); back = refl }

  module _ (out₀ out : List ℕ) (i : ℕ) (r : Copied m s start size out₀ out i) (l : i ≤ length out) where
    -- where nothing more is to be read
    copied_all : read_bytes m s (start + i) (size - i) ≡ [] → (i ≡ length (read_bytes m s start size)) × (out ≡ over (read_bytes m s start size) out₀)
    unfolding over
    copied_all e =
        let w : read_bytes m s start size ≡ take i out = r.front ∙ rw (e, append-nil) in
        let n : length (take i out) ≡ i = length-take-le i out l in
        (rw (w, n), rw (w, n, ← r.back, take-append-drop))

    pub copied-end : size ≤ i → (i ≡ length (read_bytes m s start size)) × (out ≡ over (read_bytes m s start size) out₀)
    unfolding read_bytes
    copied-end h = let f : size - i ≡ 0 = omega arith in copied_all (rw f)

    module _ (h : i < size) where
      next : size - i ≡ suc (size - (i + 1))
      next = omega arith

      pub copied-stop : read_byte m s (start + i) ≡ None → (i ≡ length (read_bytes m s start size)) × (out ≡ over (read_bytes m s start size) out₀)
      unfolding read_bytes until_unmapped
      copied-stop e = copied_all (rw (next, e))

      pub copied_more : (v : ℕ) (p : Place) → read_byte m s (start + i) ≡ Some (v, p) → i < length out → Copied m s start size out₀ (set out i v) (i + 1)
      unfolding read_bytes until_unmapped
      copied_more v p e g =
          let t : take (i + 1) (set out i v) ≡ take i out ++ (v ∷ []) = rw add-one (take-suc-set out i v g) in
          let a : start + (i + 1) ≡ start + i + 1 = omega arith in
          record {
            front = r.front ∙ rw (next, e, t, a, append_assoc);
            back = drop-set-lt (i + 1) out i v (omega arith) ∙ sym (drop-drop 1 i out) ∙ ap (drop 1) r.back ∙ drop-drop 1 i out₀;
          }

-- ---- how many bytes are read

until-length : (r : Option (ℕ × Place)) (rest : List ℕ) (n : ℕ) → length rest ≤ n → length (until_unmapped r rest) ≤ suc n
unfolding until_unmapped
until-length (Some (v, p)) rest n h = omega arith
until-length None rest n h = omega arith

module _ (m : Map) (s : Lent) where
  -- no more bytes than were asked for
  pub read_length : (start size : ℕ) → length (read_bytes m s start size) ≤ size
  unfolding read_bytes
  read_length start zero = omega arith
  read_length start (suc n) = until-length (read_byte m s start) (read_bytes m s (start + 1) n) n (read_length (start + 1) n)

  module _ (start size : ℕ) where
    -- what passes 12 counts at most 65,535 bytes
    pub counting-most : (n : ℕ) → (eqb n 0 ≡ true → start + size ≤ 65535) → (counting m s start size n).count ≤ 65535
    unfolding counting
    counting-most n h = go (eqb n 0) refl
      where
        go : (t : Bool) → eqb n 0 ≡ t → (cond t (numbered 0 (length (read_bytes m s start size))) (numbered n 0)).count ≤ 65535
        go true e = omega (arith, h e, read_length start size)
        go false e = omega arith
