-- What a line says can be said, and so can what a reference becomes: no form reads a return's address, and no reference is a return.
-- Assumes nothing.
use Prim.Native.Nat.{ℕ}
use mathlib.Core.Path.{◌≡◌, refl}
use mathlib.Core.Bool.{true}
use mathlib.Core.List.{List}
use Rattle.base.specs.Told.{Told, is, no}
use Rattle.instruction.specs.Fits.{sayable}
use Rattle.parser.specs.declared.Reference.{Reference}
use Rattle.parser.specs.declared.Reference.TheVariants as reference
use Rattle.parser.specs.Answers.{Meaning, says, refers}
use Rattle.parser.specs.Parse.{parse}
use Rattle.parser.specs.References.{resolved}
use Rattle.parser.proofs.ReferLaws.{second, Names, parse-names}

-- where it says an instruction, that can be said
abbrev pub Can : Told Meaning → Type 0
Can (is (says i)) = sayable i ≡ true
Can (is (refers r name)) = Unit {0}
Can (no n) = Unit {0}

pub parse-can : (ts : List (List ℕ)) → Can (parse ts)
parse-can ts = go (parse ts) (parse-names ts)
  where
    go : (m : Told Meaning) → Names (second ts) m → Can m
    go (is (says i)) h = h
    go (is (refers r name)) h = tt
    go (no n) h = tt

pub resolved-can : (r : Reference) (a : ℕ) → sayable (resolved r a) ≡ true
resolved-can reference.Jmp a = refl
resolved-can reference.CondJmp a = refl
resolved-can reference.Call a = refl
