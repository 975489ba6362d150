-- Every byte of a listing is below 128: texts are, and digits. Assumes nothing.
use mathlib.Core.Path.{◌≡◌, refl}
use mathlib.Core.Bool.{true}
use mathlib.Core.List.{List, [], ◌∷◌}
use Prim.Native.Nat.{ℕ, ◌+◌}
use lib.ListN.{length}
use Rattle.base.specs.Bytes.{bytes}
use Rattle.base.specs.Told.{Told, is, no}
use Rattle.instruction.specs.declared.Edition.TheVariants.{First}
use Rattle.instruction.specs.declared.Instruction.{Instruction}
use Rattle.instruction.specs.Decode.{decode}
use Rattle.printer.proofs.AsciiLaws.{ascii, ascii_append, text-ascii}
use Rattle.asm.specs.Assemble.{Outcome, accepted, refused}
use Rattle.pen.proofs.NumberLaws.{hex-ascii, decimal-ascii}
use Rattle.pen.specs.Numbers.{two_numbers}
use Rattle.lister.specs.Listing.{text_of, line, lines_from, totals, refusal, shown, outcome, listing}

told-ascii : (d : Told Instruction) → ascii (text_of d) ≡ true
unfolding ascii
told-ascii (is i) = text-ascii First i
told-ascii (no n) = refl

line-ascii : (i w : ℕ) → ascii (line i w) ≡ true
unfolding line ascii
line-ascii i w = simp (ascii_append, hex-ascii, told-ascii (decode w))

lines-ascii : (i : ℕ) (ws : List ℕ) → ascii (lines_from i ws) ≡ true
unfolding lines_from ascii
lines-ascii i [] = refl
lines-ascii i (w ∷ ws) = rw (ascii_append, line-ascii i w) (lines-ascii (i + 1) ws)

two-ascii : (first second : List ℕ) (n m : ℕ) → ascii first ≡ true → ascii second ≡ true → ascii (two_numbers first n second m) ≡ true
unfolding two_numbers ascii
two-ascii first second n m f s = simp (ascii_append, decimal-ascii, f, s)

shown-ascii : (o : Outcome) → ascii (shown o) ≡ true
unfolding totals refusal ascii
shown-ascii (accepted w) =
    rw (ascii_append, lines-ascii 0 w.words) (two-ascii (bytes "words ") (bytes " open ") (length w.words) (length w.waiting) refl refl)
shown-ascii (refused number place) = two-ascii (bytes "refused ") (bytes " line ") number place refl refl

pub listing-ascii : (source : List ℕ) → ascii (listing source) ≡ true
unfolding listing
listing-ascii source = shown-ascii (outcome source)
