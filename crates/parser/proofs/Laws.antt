-- What a caller of the parser may rely on beside `parse` itself. Assumes nothing.
use Prim.Native.Nat.{ℕ}
use mathlib.Core.Path.{◌≡◌, refl, sym, ap}
use mathlib.Core.List.{List, [], ◌∷◌}
use mathlib.Core.Logic.{◌⊎◌}
use Rattle.base.specs.Numbers.{number_of}
use Rattle.base.specs.Told.{no}
use Rattle.base.proofs.Laws.{number-one}
use Rattle.base.proofs.ToldLaws.{is-not-no, no_one}
use Rattle.std.specs.Prelude.{Result, Ok, Err}
use Rattle.base.specs.declared.refusals.Refusal.{Refusal}
use Rattle.parser.specs.declared.Parsed.{Parsed}
use Rattle.parser.specs.declared.Parsed.TheVariants.{Is, Refers}
use Rattle.parser.specs.Answers.{says, refers, told}
use Rattle.parser.specs.Parse.{parse}
use Rattle.parser.proofs.NumberLaws.{parse-fair}

-- a blank line is 23
pub parse-blank : parse [] ≡ no 23
unfolding parse
parse-blank = refl

-- a line with a token is refused by 20, 21, 22 or 24, and so never by 23 or 25
pub parse-numbers : (mnemonic : List ℕ) (operands : List (List ℕ)) (n : ℕ) → parse (mnemonic ∷ operands) ≡ no n →
    (n ≡ 20) ⊎ ((n ≡ 21) ⊎ ((n ≡ 22) ⊎ (n ≡ 24)))
parse-numbers mnemonic operands n e = rw e at (parse-fair mnemonic operands)

-- two answers that are told alike are one
pub parsed-one : (a b : Result Parsed Refusal) (name : List ℕ) → told a name ≡ told b name → a ≡ b
parsed-one (Ok (Is i)) (Ok (Is j)) name e = cc
parsed-one (Ok (Is i)) (Ok (Refers r)) name e = cc
parsed-one (Ok (Is i)) (Err r) name e = is-not-no (says i) (number_of r) e
parsed-one (Ok (Refers r)) (Ok (Is i)) name e = cc
parsed-one (Ok (Refers r)) (Ok (Refers q)) name e = cc
parsed-one (Ok (Refers r)) (Err q) name e = is-not-no (refers r name) (number_of q) e
parsed-one (Err r) (Ok (Is i)) name e = is-not-no (says i) (number_of r) (sym e)
parsed-one (Err r) (Ok (Refers q)) name e = is-not-no (refers q name) (number_of r) (sym e)
parsed-one (Err r) (Err q) name e = ap Err (number-one r q (no_one (number_of r) (number_of q) e))
