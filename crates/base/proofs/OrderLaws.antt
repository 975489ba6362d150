-- What is accepted has passed each test of its order: a number of it would not be 0, and a refusal is no value. Assumes nothing.
use mathlib.Core.Path.{◌≡◌, refl, sym}
use mathlib.Core.Bool.{true, false}
use mathlib.Core.List.{List, [], ◌∷◌}
use Prim.Native.Nat.{zero, suc}
use native.Mathlib.Omega.{arith}
use lib.Dec.{eqb}
use borrow.Author.Tests.{eqb-true}
use Rattle.base.specs.Order.{Refusing, refusing, first_of, passing}
use Rattle.base.specs.Told.{is}
use Rattle.base.proofs.ToldLaws.{is-not-no, is_one}

-- no number of the order is given
abbrev pub Passed : List Refusing → Type 0
Passed [] = Unit {0}
Passed (refusing zero given ∷ rest) = Unit {0}
Passed (refusing (suc n) given ∷ rest) = (given ≡ false) × Passed rest

pub passed : (order : List Refusing) → eqb (first_of order) 0 ≡ true → Passed order
passed [] e = tt
passed (refusing zero given ∷ rest) e = tt
passed (refusing (suc n) true ∷ rest) e = absurd (let z : suc n ≡ 0 = eqb-true (suc n) 0 e in omega arith)
passed (refusing (suc n) false ∷ rest) e = (refl, passed rest e)

-- and is the value that the order stands before
pub passed-value : {A : Type 0} (order : List Refusing) (a b : A) → passing order a ≡ is b → Passed order × (b ≡ a)
passed-value [] a b e = (tt, sym (is_one a b e))
passed-value (refusing n true ∷ rest) a b e = is-not-no b n (sym e)
passed-value (refusing zero false ∷ rest) a b e = (tt, (passed-value rest a b e).1)
passed-value (refusing (suc n) false ∷ rest) a b e = let p = passed-value rest a b e in ((refl, p.0), p.1)
