-- What was read is the whole input, or else it is too long as the whole input is; so its listing is the input's, and that is what stands at
-- the start of the buffer. Assumes nothing.
use Prim.Native.Nat.{ℕ, ◌+◌, ◌≤◌, ◌<◌}
use mathlib.Core.Path.{◌≡◌, refl, sym, ap, subst, ◌∙◌}
use mathlib.Core.List.{List, ◌++◌}
use mathlib.Core.Bool.{Bool, true, false}
use native.Mathlib.Omega.{arith}
use borrow.Author.Tests.{lt-leb, ltb-true, ltb-false}
use lib.Dec.{ltb}
use lib.ListN.{length, take, length-append}
use Rattle.std.proofs.Common.{append-nil}
use Rattle.std.specs.Prelude.{Option, Some, None, Result, Ok, Err, IfSome, OnOk}
use Rattle.std.specs.Io.KnownBytes.{Consumes, IsAtEnd}
use Rattle.base.specs.Told.{is}
use Rattle.base.proofs.ToldLaws.{is_one}
use Rattle.printer.proofs.Laws.{placed_first}
use Rattle.lister.specs.Listing.{listing, outcome, listed, listed_buffer}
use Rattle.lister.proofs.Laws.{listed-fits, buffer-fits}

-- two texts that are too long have one listing
both-long : (s t : List ℕ) → 65536 < length s → 65536 < length t → listing s ≡ listing t
unfolding listing outcome
both-long s t h k = rw (lt-leb (length s) 65536 h, lt-leb (length t) 65536 k)

-- with room for one byte more than a text may have
pub whole : (known left : Option (List ℕ)) (read : List ℕ) → Consumes known left read → (length read < 65537 → IsAtEnd left) → IfSome known (λ source. listing read ≡ listing source)
whole None left read c e = tt
whole (Some source) None read c e = absurd c
whole (Some source) (Some rest) read c e = go (ltb (length read) 65537) refl
  where
    go : (t : Bool) → ltb (length read) 65537 ≡ t → listing read ≡ listing source
    go true q = let end = e (ltb-true (length read) 65537 q) in ap listing (sym (c ∙ ap (λ l. read ++ l) end ∙ append-nil read))
    go false q =
        let h = ltb-false (length read) 65537 q in
        let k : length source ≡ length read + length rest = ap length c ∙ length-append read rest in
        both-long read source (omega arith) (omega arith)

-- what is answered and left, where there is room for every listing
module _ (source out : List ℕ) (short : length (listing source) ≤ 1212432) (full : length out ≡ 1212432) where
  fits : length (listing source) ≤ length out
  fits = omega (arith, short, full)

  pub given : listed source (length out) ≡ is (length (listing source))
  given = listed-fits source (length out) fits

  pub size : (n : ℕ) → is n ≡ listed source (length out) → n ≡ length (listing source)
  size n e = is_one n (length (listing source)) (e ∙ given)

  pub within : (n : ℕ) → is n ≡ listed source (length out) → n ≤ length out
  within n e = omega (arith, size n e, fits)

  pub first : (n : ℕ) (after : List ℕ) → is n ≡ listed source (length out) → after ≡ listed_buffer source out → take n after ≡ listing source
  first n after e f = rw (size n e, f, buffer-fits source out fits) (placed_first (listing source) out)

-- and so what was written is the input's listing
pub written : {T E : Type 0} (r : Result T E) (known : Option (List ℕ)) (A : List ℕ → Type 0) (l read : List ℕ) → OnOk r (A l) → l ≡ listing read
    → IfSome known (λ source. listing read ≡ listing source) → OnOk r (IfSome known (λ source. A (listing source)))
written (Ok x) None A l read a e h = tt
written (Ok x) (Some source) A l read a e h = subst A (e ∙ h) a
written (Err x) known A l read a e h = tt
