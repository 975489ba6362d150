-- A block as the code writes it, part by part. Assumes nothing.
use Prim.Native.Nat.{ℕ, ◌+◌}
use mathlib.Core.Path.{◌≡◌, ap, ◌∙◌}
use mathlib.Core.List.{List, [], ◌∷◌, ◌++◌, append-nil}
use lib.ListN.{length, drop, set, length-append, drop_of_length-le}
use lib.Seq.{sets, sets-eq}
use native.Mathlib.Omega.{arith}
use Rattle.base.specs.Words.{low_of}
use Rattle.wordbytes.specs.Words.{bytes_of}
use Rattle.wordbytes.proofs.Parts.{sets-next}
use Rattle.journal.specs.declared.State.{State}
use Rattle.block.specs.Block.{region_words, device_words, flag, packed}
use Rattle.block.proofs.Laws.{Shaped, length-registers, length-regions, length-devices, length-packed}

module _ (s : State) (e : Shaped s) where
  -- the parts of a block
  pub packed-parts : (b : List ℕ) → length b ≡ 87
      → sets (sets (set (sets (set (set (sets b
      0 (bytes_of s.machine.registers.value))
      16 (flag s.machine.mode.debug))
      17 (low_of s.machine.map.regions))
      18 (bytes_of (region_words s.machine.map.region)))
      50 (low_of s.machine.map.devices))
      51 (bytes_of (device_words s.machine.map.device)))
      83 (bytes_of (s.next ∷ s.held ∷ []))
      ≡ packed s
  unfolding packed
  packed-parts b h =
      let a = bytes_of s.machine.registers.value in
      let x = flag s.machine.mode.debug ∷ low_of s.machine.map.regions ∷ bytes_of (region_words s.machine.map.region) in
      let y = low_of s.machine.map.devices ∷ bytes_of (device_words s.machine.map.device) in
      let z = bytes_of (s.next ∷ s.held ∷ []) in
      let ax : 0 + length (a ++ x) ≡ 50 = omega (arith, length-append a x, length-registers s e, length-regions s e) in
      let axy : 0 + length (a ++ x ++ y) ≡ 83 = omega (arith, length-append (a ++ x) y, length-devices s e) in
      let first : sets (sets b 0 a) 16 x ≡ sets b 0 (a ++ x) = sets-next a x b 0 16 (omega (arith, length-registers s e)) in
      let n : 0 + length (packed s) ≡ length b = omega (arith, length-packed s e) in
      let none : drop (0 + length (packed s)) b ≡ [] = drop_of_length-le b {i = 0 + length (packed s)} (omega arith) in
      let whole : sets b 0 (packed s) ≡ packed s = sets-eq (packed s) b 0 (omega arith) ∙ rw none (append-nil (packed s)) in
      ap (λ (l : List ℕ). sets (sets l 50 y) 83 z) first
      ∙ ap (λ (l : List ℕ). sets l 83 z) (sets-next (a ++ x) y b 0 50 ax)
      ∙ sets-next (a ++ x ++ y) z b 0 83 axy ∙ whole
