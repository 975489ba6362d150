-- Zeros one after another: what is left of an array, filled up from i on, stays the same when a zero is put at i. Assumes nothing.
use Prim.Native.Nat.{◌+◌, ◌-◌, ◌<◌, ◌≤◌, suc, ℕ}
use borrow.Rule.Slice.PartMut.{mid_of, put_mid, post_of}
use lib.ListN.{drop, drop_of_length-le, length, length-append, length-drop, length-take, length-replicate, length-set, replicate, replicate-append-replicate, set, take}
use lib.Seq.{length-take-le, take_all, take-append_seam}
use mathlib.Core.List.{List, [], ◌++◌, ◌∷◌, append_assoc, append-nil}
use mathlib.Core.Path.{◌∙◌, ◌≡◌, ap, refl, sym}
use native.Mathlib.Numerals.{add-one}
use native.Mathlib.Omega.{arith}
use Rattle.asm.specs.Assemble.{filled}
use Rattle.labels.proofs.ListLaws.{take_snoc}

module _ (xs : List ℕ) (i : ℕ) where
  pub clear_step : i < length xs → filled (length (set xs i 0)) (take (i + 1) (set xs i 0)) ≡ filled (length xs) (take i xs)
  unfolding filled
  clear_step h =
      let a : take (i + 1) (set xs i 0) ≡ take i xs ++ (0 ∷ []) = take_snoc xs i 0 h in
      let b : length (take i xs) ≡ i = length-take-le i xs (omega arith) in
      let c : length (take i xs ++ (0 ∷ [])) ≡ i + 1 = length-append (take i xs) (0 ∷ []) ∙ rw b in
      let d : length xs - i ≡ suc (length xs - (i + 1)) = omega (arith, add-one (length xs - (i + 1))) in
      rw (length-set xs i 0, a, c, b, d) (append_assoc (take i xs) (0 ∷ []) (replicate (length xs - (i + 1)) 0))

  pub clear-end : length xs ≤ i → filled (length xs) (take i xs) ≡ xs
  unfolding filled
  clear-end h =
      let z : length xs - length xs ≡ 0 = omega arith in
      rw (take_all i xs h, z) (append-nil xs)

  -- the rest filled at once
  pub clear-rest : i ≤ length xs → (zeros : List ℕ) → zeros ≡ replicate (length (mid_of i (length xs - i) xs)) 0 → put_mid i (length xs - i) xs zeros ≡ filled (length xs) (take i xs)
  unfolding filled
  clear-rest h zeros e =
      let l : length (take i xs) ≡ i = length-take-le i xs h in
      let size : length (mid_of i (length xs - i) xs) ≡ length xs - i = omega (arith, length-take (length xs - i) (drop i xs), length-drop i xs) in
      let rest : post_of i (length xs - i) xs ≡ [] = drop_of_length-le (drop i xs) (omega (arith, length-drop i xs)) in
      rw (l, e, size, rest) (ap (λ (zs : List ℕ). take i xs ++ zs) (append-nil (replicate (length xs - i) 0)))

-- ---- for the crates above: the numbers come first, and there is room for them

pub filled-first : (room : ℕ) (ns : List ℕ) → take (length ns) (filled room ns) ≡ ns
unfolding filled
filled-first room ns = take-append_seam ns (replicate (room - length ns) 0)

pub filled-length : (room : ℕ) (ns : List ℕ) → length ns ≤ length (filled room ns)
unfolding filled
filled-length room ns = rw length-append (omega arith)

pub filled-parts : (room : ℕ) (ns : List ℕ) → filled room ns ≡ ns ++ replicate (room - length ns) 0
unfolding filled
filled-parts room ns = refl

pub filled-exact : (room : ℕ) (ns : List ℕ) → length ns ≤ room → length (filled room ns) ≡ room
unfolding filled
filled-exact room ns h = rw (length-append, length-replicate) (omega arith)

-- with more room there are more zeros
pub filled_more : (room more : ℕ) (ns : List ℕ) → length ns ≤ room → room ≤ more → filled more ns ≡ filled room ns ++ replicate (more - room) 0
unfolding filled
filled_more room more ns h k =
    let e : room - length ns + (more - room) ≡ more - length ns = omega arith in
    sym (append_assoc ns (replicate (room - length ns) 0) (replicate (more - room) 0)
    ∙ rw (replicate-append-replicate {A = ℕ} (room - length ns) (more - room) 0, e))
