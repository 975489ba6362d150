-- A record is read back from its bytes, a slot that is filled is read back, and the other slots are as they were: lists that
-- are cut and joined at multiples of 23. Assumes nothing.
use Prim.Native.Nat.{ℕ, zero, suc, ◌+◌, ◌*◌, ◌-◌, ◌<◌, ◌≤◌}
use mathlib.Core.Path.{◌≡◌, refl, sym, ap, ◌∙◌}
use mathlib.Core.Bool.{Bool, true, false}
use mathlib.Core.List.{List, [], ◌∷◌, ◌++◌, append_assoc}
use lib.Dec.{ltb}
use lib.ListN.{length, take, drop, length-append, length-drop}
use lib.Seq.{take_at, drop_at, length-take-le, take-take, drop-drop}
use borrow.Author.Tests.{ltb-true, ltb-false}
use native.Mathlib.Nat.{mod-add-div}
use native.Mathlib.Omega.{arith}
use Rattle.wordbytes.specs.Words.{bytes_of, words_from}
use Rattle.wordbytes.proofs.Laws.{length-bytes, length-words, words_back}
use Rattle.records.specs.declared.Record.{Record}
use Rattle.records.specs.Records.{old_bytes, encode, decode}
use Rattle.records.specs.Slots.{room, record_at, filled}

-- ---- a record's bytes

pub length-encode : (r : Record) → length r.registers ≡ 8 → length (encode r) ≡ 23
unfolding encode
length-encode r e = simp (length-append, length-bytes, e)

pub decode-encode : (r : Record) → length r.registers ≡ 8 → decode (encode r) ≡ r
unfolding encode decode
decode-encode r e =
    let t = old_bytes r.first ++ old_bytes r.second in
    let n : length (bytes_of r.registers) ≡ 16 = length-bytes r.registers ∙ ap (λ (k : ℕ). 2 * k) e in
    let u : words_from 8 (bytes_of r.registers ++ t) ≡ r.registers = rw (← e) (words_back r.registers t) in
    let v : drop 19 (bytes_of r.registers ++ t) ≡ old_bytes r.second = sym (drop-drop 3 16 (bytes_of r.registers ++ t)) ∙ ap (drop 3) (drop_at (bytes_of r.registers) t 16 n) in
    rw (drop_at (bytes_of r.registers) t 16 n, v, u, mod-add-div r.first.address 256, mod-add-div r.second.address 256)

-- whatever the bytes are, eight registers are read
pub record-eight : (l : List ℕ) (k : ℕ) → length (record_at l k).registers ≡ 8
unfolding record_at decode
record-eight l k = length-words 8 _

-- ---- slots

-- a part of the front is a part of the whole
window : (n j m : ℕ) (l : List ℕ) → n + j ≤ m → take j (drop n (take m l)) ≡ take j (drop n l)
window zero j m l h = take-take j m l (omega arith)
window (suc n) j zero l h = absurd (omega arith)
window (suc n) j (suc m) [] h = refl
window (suc n) j (suc m) (x ∷ l) h = window n j m l (omega arith)

-- a slot of the room lies within the journal
pub slot-within : (l : List ℕ) (k : ℕ) → k < room l → 23 * k + 23 ≤ length l
unfolding room
slot-within l k h = omega arith

-- a journal as long as another has its room
pub room-length : (l m : List ℕ) → length l ≡ length m → room l ≡ room m
unfolding room
room-length l m e = rw e

module _ (l : List ℕ) (k : ℕ) (r : Record) (e : length r.registers ≡ 8) (h : k < room l) where
  within : 23 * k + 23 ≤ length l
  within = slot-within l k h

  front : length (take (23 * k) l) ≡ 23 * k
  front = let w : 23 * k + 23 ≤ length l = within in length-take-le (23 * k) l (omega arith)

  pub length-filled : length (filled l k r) ≡ length l
  unfolding filled
  length-filled = let w : 23 * k + 23 ≤ length l = within in simp (length-append, length-drop, front, length-encode r e) (omega arith)

  pub room-filled : room (filled l k r) ≡ room l
  room-filled = room-length (filled l k r) l length-filled

  pub filled-own : record_at (filled l k r) k ≡ r
  unfolding record_at filled
  filled-own =
      let a : drop (23 * k) (take (23 * k) l ++ encode r ++ drop (23 * k + 23) l) ≡ encode r ++ drop (23 * k + 23) l = rw append_assoc (drop_at (take (23 * k) l) (encode r ++ drop (23 * k + 23) l) (23 * k) front) in
      rw (a, take_at (encode r) (drop (23 * k + 23) l) 23 (length-encode r e)) (decode-encode r e)

  before-kept : take (23 * k) (filled l k r) ≡ take (23 * k) l
  unfolding filled
  before-kept = rw append_assoc (take_at (take (23 * k) l) (encode r ++ drop (23 * k + 23) l) (23 * k) front)

  after_kept : drop (23 * k + 23) (filled l k r) ≡ drop (23 * k + 23) l
  unfolding filled
  after_kept = drop_at (take (23 * k) l ++ encode r) (drop (23 * k + 23) l) (23 * k + 23) (simp (length-append, front, length-encode r e))

  slot_kept : (i : ℕ) → (i ≡ k → ⊥) → take 23 (drop (23 * i) (filled l k r)) ≡ take 23 (drop (23 * i) l)
  slot_kept i n = go (ltb i k) refl
    where
      go : (t : Bool) → ltb i k ≡ t → take 23 (drop (23 * i) (filled l k r)) ≡ take 23 (drop (23 * i) l)
      go true f =
          let m : 23 * i + 23 ≤ 23 * k = omega (arith, ltb-true i k f) in
          sym (window (23 * i) 23 (23 * k) (filled l k r) m) ∙ ap (λ (x : List ℕ). take 23 (drop (23 * i) x)) before-kept ∙ window (23 * i) 23 (23 * k) l m
      go false f =
          let m : 23 * i ≡ 23 * k + 23 + (23 * i - (23 * k + 23)) = omega (arith, ltb-false i k f, n) in
          rw (m, ← drop-drop (23 * i - (23 * k + 23)) (23 * k + 23) (filled l k r), ← drop-drop (23 * i - (23 * k + 23)) (23 * k + 23) l, after_kept)

  pub filled-other : (i : ℕ) → (i ≡ k → ⊥) → record_at (filled l k r) i ≡ record_at l i
  unfolding record_at
  filled-other i n = ap decode (slot_kept i n)
