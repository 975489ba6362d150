-- What listing answers and leaves, by whether the listing fits; and the listing's length, which is at most the sum of its parts'
-- bounds: 37 bytes for each of at most 32,767 words, and 53 for the totals. Assumes nothing.
use mathlib.Core.Path.{◌≡◌}
use mathlib.Core.List.{List, [], ◌∷◌}
use Prim.Native.Nat.{ℕ, ◌+◌, ◌*◌, ◌≤◌, ◌<◌, zero-le}
use native.Mathlib.Omega.{arith}
use borrow.Author.Tests.{le-leb, lt-leb}
use lib.ListN.{length, length-append}
use Rattle.base.specs.Bytes.{bytes}
use Rattle.base.specs.Told.{Told, is, no}
use Rattle.instruction.specs.declared.Edition.TheVariants.{First}
use Rattle.instruction.specs.declared.Instruction.{Instruction}
use Rattle.instruction.specs.Decode.{decode}
use Rattle.printer.specs.Print.{placed}
use Rattle.printer.proofs.Laws.{text-length}
use Rattle.asm.specs.Assemble.{Outcome, accepted, refused, words_of}
use Rattle.pen.proofs.NumberLaws.{hex-length, decimal-length}
use Rattle.pen.specs.Numbers.{two_numbers}
use Rattle.lister.specs.Listing.{text_of, line, lines_from, totals, refusal, shown, outcome, listing, listed, listed_buffer}

module _ (source : List ℕ) where
  pub listed-fits : (room : ℕ) → length (listing source) ≤ room → listed source room ≡ is (length (listing source))
  unfolding listed
  listed-fits room h = rw (le-leb _ _ h)

  pub listed-19 : (room : ℕ) → room < length (listing source) → listed source room ≡ no 19
  unfolding listed
  listed-19 room h = rw (lt-leb _ _ h)

  pub buffer-fits : (buffer : List ℕ) → length (listing source) ≤ length buffer → listed_buffer source buffer ≡ placed (listing source) buffer 0
  unfolding listed_buffer
  buffer-fits buffer h = rw (le-leb _ _ h)

  pub buffer-19 : (buffer : List ℕ) → length buffer < length (listing source) → listed_buffer source buffer ≡ buffer
  unfolding listed_buffer
  buffer-19 buffer h = rw (lt-leb _ _ h)

-- ---- lengths

pub told-length : (d : Told Instruction) → length (text_of d) ≤ 26
told-length (is i) = text-length First i
told-length (no n) = zero-le

pub line-length : (i w : ℕ) → length (line i w) ≤ 37
unfolding line
line-length i w = simp (length-append, hex-length) (omega (arith, told-length (decode w)))

pub lines-length : (i : ℕ) (ws : List ℕ) → length (lines_from i ws) ≤ 37 * length ws
unfolding lines_from
lines-length i [] = zero-le
lines-length i (w ∷ ws) = rw length-append (omega (arith, line-length i w, lines-length (i + 1) ws))

two-length : (first second : List ℕ) (n m : ℕ) → length (two_numbers first n second m) ≤ length first + length second + 41
unfolding two_numbers
two-length first second n m = simp length-append (omega (arith, decimal-length n, decimal-length m))

totals-length : (words waiting : ℕ) → length (totals words waiting) ≤ 53
unfolding totals
totals-length words waiting = two-length (bytes "words ") (bytes " open ") words waiting

refusal-length : (number place : ℕ) → length (refusal number place) ≤ 55
unfolding refusal
refusal-length number place = two-length (bytes "refused ") (bytes " line ") number place

shown-length : (o : Outcome) → length (words_of o) ≤ 32767 → length (shown o) ≤ 1212432
shown-length (accepted w) h = rw length-append (omega (arith, lines-length 0 w.words, totals-length (length w.words) (length w.waiting)))
shown-length (refused number place) h = omega (arith, refusal-length number place)

-- the assembler fills a room of 32,767 words and no more, as `list` shows; so a buffer of 1,212,432 bytes has room for every listing
pub listing-length : (source : List ℕ) → length (words_of (outcome source)) ≤ 32767 → length (listing source) ≤ 1212432
unfolding listing
listing-length source h = shown-length (outcome source) h
