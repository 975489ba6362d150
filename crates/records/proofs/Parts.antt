-- A record's bytes as the code reads and writes them, part by part, and a slot as the part of the journal that it reads and
-- writes. Assumes nothing.
use Prim.Native.Nat.{ℕ, suc, ◌+◌, ◌*◌, ◌-◌, ◌<◌, ◌≤◌}
use mathlib.Core.Path.{◌≡◌, ap, ◌∙◌}
use mathlib.Core.List.{List, ◌++◌}
use lib.ListN.{length, get_or, take, drop, set}
use lib.Seq.{get_or-drop, sets, sets-eq}
use native.Mathlib.Omega.{arith}
use Rattle.wordbytes.specs.Words.{word_at, bytes_of, words_from}
use Rattle.wordbytes.proofs.Laws.{length-bytes}
use Rattle.wordbytes.proofs.Parts.{sets-next}
use Rattle.records.specs.declared.Record.{Record}
use Rattle.records.specs.Records.{old, entry, old_bytes, encode, decode}
use Rattle.records.specs.Slots.{room, record_at, filled}
use Rattle.records.proofs.Laws.{length-encode, slot-within}

-- ---- read

pub decode-flat : (l : List ℕ)
    → decode l ≡ entry (get_or l 0 0) (words_from 8 (drop 1 l)) (old (word_at l 17) (get_or l 19 0)) (old (word_at l 20) (get_or l 22 0))
unfolding decode
decode-flat l = simp get_or-drop

pub part-slot : (k : ℕ) (l : List ℕ) → decode (take (23 * k + 23 - 23 * k) (drop (23 * k) l)) ≡ record_at l k
unfolding record_at
part-slot k l = let e : 23 * k + 23 - 23 * k ≡ 23 = omega arith in rw e

-- ---- written

-- the four parts of a record
pub encode-parts : (l : List ℕ) (i : ℕ) (r : Record) → length r.registers ≡ 8
    → sets (sets (sets (set l i r.kind) (i + 1) (bytes_of r.registers)) (i + 17) (old_bytes r.first)) (i + 20) (old_bytes r.second)
    ≡ sets l i (encode r)
unfolding encode
encode-parts l i r e =
    let n : length (bytes_of r.registers) ≡ 16 = length-bytes r.registers ∙ ap (λ (k : ℕ). 2 * k) e in
    let m = set l i r.kind in
    let s : i + 1 ≡ suc i = omega arith in
    rw s (sets-next (old_bytes r.first) (old_bytes r.second) (sets m (suc i) (bytes_of r.registers)) (i + 17) (i + 20) (omega arith)
    ∙ sets-next (bytes_of r.registers) (old_bytes r.first ++ old_bytes r.second) m (suc i) (i + 17) (omega arith))

pub sets-filled : (l : List ℕ) (k : ℕ) (r : Record) → length r.registers ≡ 8 → k < room l → sets l (23 * k) (encode r) ≡ filled l k r
unfolding filled
sets-filled l k r e h =
    let n : length (encode r) ≡ 23 = length-encode r e in
    let w : 23 * k + length (encode r) ≤ length l = omega (arith, slot-within l k h) in
    rw (sets-eq (encode r) l (23 * k) w, n)
