-- What the crates above may use: the root is the one r with r*r <= v < (r+1)*(r+1), since squares grow; and every result has
-- sixteen bits, since it is fitted to them or no larger than the first number. Assumes nothing.
use mathlib.Core.Path.{◌≡◌, refl, subst⁻¹}
use mathlib.Core.Bool.{Bool, true, false}
use Prim.Native.Nat.{ℕ, zero, suc, ◌+◌, ◌-◌, ◌*◌, ◌/◌, ◌%◌, ◌^◌, ◌<◌, ◌≤◌, zero-le}
use native.Mathlib.Nat.{mul-le-mul, le_antisymm, le_refl, le_trans, le-suc, lt_of_le_of_lt, sub-le, div-le_self, mod-le, mod-lt}
use native.Mathlib.Numerals.{add-one}
use native.Mathlib.Omega.{arith}
use lib.Bits.{or_lt}
use lib.Dec.{eqb, leb, lit<}
use lib.Pow.{shr_le}
use borrow.Author.Tests.{leb-true, leb-false}
use Rattle.base.proofs.ToldLaws.{Numbered, or-numbered, first-numbered}
use Rattle.base.specs.Choice.{cond}
use Rattle.base.specs.Told.{is, no}
use Rattle.instruction.specs.declared.ArithOp.{ArithOp}
use Rattle.instruction.specs.declared.ArithOp.TheVariants as four
use Rattle.instruction.specs.declared.ArithmeticOp.{ArithmeticOp}
use Rattle.instruction.specs.declared.ArithmeticOp.TheVariants as seven
use Rattle.arithmetic.specs.Totals.{fitted, sum, difference, product, quotient, remainder, power}
use Rattle.arithmetic.specs.Operators.{arith_result, arithmetic_result}
use Rattle.arithmetic.specs.Shifts.{shifted, moved}
use Rattle.arithmetic.specs.Roots.{root_up_to, root}

-- 01's sentence
pub record IsRoot (v r : ℕ) : Type 0 where
  pub low : r * r ≤ v
  pub high : v < (r + 1) * (r + 1)

-- a number whose square is at most v is at most one whose next has a square above v
at_most : (v r q : ℕ) → r * r ≤ v → v < (q + 1) * (q + 1) → r ≤ q
at_most v r q h g = go (leb r q) refl
  where
    never : (x y : ℕ) → x ≤ y → y ≤ v → v < x → ⊥
    never x y a b c = omega arith

    go : (t : Bool) → leb r q ≡ t → r ≤ q
    go true e = leb-true r q e
    go false e =
        let k : q < r = leb-false r q e in
        let n : q + 1 ≤ r = omega arith in
        absurd (never ((q + 1) * (q + 1)) (r * r) (mul-le-mul n n) h g)

pub roots-same : (v r q : ℕ) → IsRoot v r → IsRoot v q → r ≡ q
roots-same v r q a b = le_antisymm (at_most v r q a.low b.high) (at_most v q r b.low a.high)

up_to : (k v : ℕ) → v < (k + 1) * (k + 1) → IsRoot v (root_up_to k v)
unfolding root_up_to
up_to zero v h = record { low = zero-le; high = h }
up_to (suc k) v h = go (leb (suc k * suc k) v) refl (up_to k v)
  where
    go : (t : Bool) → leb (suc k * suc k) v ≡ t → (v < (k + 1) * (k + 1) → IsRoot v (root_up_to k v)) → IsRoot v (cond t (suc k) (root_up_to k v))
    go true e r = record { low = leb-true (suc k * suc k) v e; high = h }
    go false e r = r (rw (add-one k) (leb-false (suc k * suc k) v e))

-- the definition is it
pub root_is : (v : ℕ) → v < 65536 → IsRoot v (root v)
unfolding root
root_is v h = up_to 255 v h

-- and there is no other
pub root-one : (v r : ℕ) → v < 65536 → IsRoot v r → r ≡ root v
root-one v r h a = roots-same v r (root v) a (root_is v h)

pub root_found : (v r : ℕ) → v < 65536 → r * r ≤ v → v < (r + 1) * (r + 1) → r ≡ root v
root_found v r h l g = root-one v r h (record { low = l; high = g })

pub root-marked : (root 65024 ≡ 254) × (root 65025 ≡ 255)
unfolding root root_up_to
root-marked = (refl, refl)

-- ---- a result that fits, and one that does not

pub fitted-is : (n v : ℕ) → fitted n ≡ is v → (v ≡ n) × (n ≤ 65535)
unfolding fitted
fitted-is n v = go (leb n 65535) refl
  where
    go : (t : Bool) → leb n 65535 ≡ t → cond t (is n) (no 7) ≡ is v → (v ≡ n) × (n ≤ 65535)
    go true h e = (cc, leb-true n 65535 h)
    go false h e = absurd (let z : ◌≡◌ {A = ℕ} 0 1 = cc in omega arith)

pub fitted-no : (n k : ℕ) → fitted n ≡ no k → (k ≡ 7) × (65535 < n)
unfolding fitted
fitted-no n k = go (leb n 65535) refl
  where
    go : (t : Bool) → leb n 65535 ≡ t → cond t (is n) (no 7) ≡ no k → (k ≡ 7) × (65535 < n)
    go true h e = absurd (let z : ◌≡◌ {A = ℕ} 0 1 = cc in omega arith)
    go false h e = (cc, leb-false n 65535 h)

-- ---- every result has sixteen bits

fitted-fits : (n v : ℕ) → fitted n ≡ is v → v < 65536
fitted-fits n v e = let f = fitted-is n v e in omega (arith, f.0, f.1)

-- a value or a refusal, by a test
value : (t : Bool) (x k v : ℕ) → cond t (is x) (no k) ≡ is v → v ≡ x
value true x k v e = cc
value false x k v e = absurd (let z : ◌≡◌ {A = ℕ} 0 1 = cc in omega arith)

other-value : (t : Bool) (x k v : ℕ) → cond t (no k) (is x) ≡ is v → v ≡ x
other-value true x k v e = absurd (let z : ◌≡◌ {A = ℕ} 0 1 = cc in omega arith)
other-value false x k v e = cc

root-bound : (k v : ℕ) → root_up_to k v ≤ k
unfolding root_up_to
root-bound zero v = zero-le
root-bound (suc k) v = go (leb (suc k * suc k) v) (root-bound k v)
  where
    go : (t : Bool) → root_up_to k v ≤ k → cond t (suc k) (root_up_to k v) ≤ suc k
    go true h = le_refl (suc k)
    go false h = le_trans h (le-suc k)

pub root-fits : (v : ℕ) → root v ≤ 255
unfolding root
root-fits v = root-bound 255 v

module _ (a b v : ℕ) where
  sum_fits : sum a b ≡ is v → v < 65536
  unfolding sum
  sum_fits e = fitted-fits (a + b) v e

  product-fits : product a b ≡ is v → v < 65536
  unfolding product
  product-fits e = fitted-fits (a * b) v e

  power-fits : power a b ≡ is v → v < 65536
  unfolding power
  power-fits e = fitted-fits (a ^ b) v e

  module _ (h : a < 65536) where
    difference-fits : difference a b ≡ is v → v < 65536
    unfolding difference
    difference-fits e = subst⁻¹ (λ (n : ℕ). n < 65536) (value (leb b a) (a - b) 7 v e) (lt_of_le_of_lt (sub-le a b) h)

    quotient_fits : quotient a b ≡ is v → v < 65536
    unfolding quotient
    quotient_fits e = subst⁻¹ (λ (n : ℕ). n < 65536) (other-value (eqb b 0) (a / b) 8 v e) (lt_of_le_of_lt (div-le_self a b) h)

    remainder-fits : remainder a b ≡ is v → v < 65536
    unfolding remainder
    remainder-fits e = subst⁻¹ (λ (n : ℕ). n < 65536) (other-value (eqb b 0) (a % b) 8 v e) (lt_of_le_of_lt (mod-le a b) h)

pub arith-fits : (op : ArithOp) (a b v : ℕ) → a < 65536 → arith_result op a b ≡ is v → v < 65536
unfolding arith_result
arith-fits four.Add a b v h = sum_fits a b v
arith-fits four.Sub a b v h = difference-fits a b v h
arith-fits four.Mul a b v h = product-fits a b v
arith-fits four.Div a b v h = quotient_fits a b v h

pub arithmetic-fits : (op : ArithmeticOp) (a b v : ℕ) → a < 65536 → arithmetic_result op a b ≡ is v → v < 65536
unfolding arithmetic_result
arithmetic-fits seven.Add a b v h = sum_fits a b v
arithmetic-fits seven.Sub a b v h = difference-fits a b v h
arithmetic-fits seven.Mul a b v h = product-fits a b v
arithmetic-fits seven.Div a b v h = quotient_fits a b v h
arithmetic-fits seven.Mod a b v h = remainder-fits a b v h
arithmetic-fits seven.Exp a b v h = power-fits a b v
arithmetic-fits seven.Sqrt a b v h = λ e. let f = root-fits a in let g : v ≡ root a = value true (root a) 0 v e in omega (arith, f, g)

shifted_fits : (v amount : ℕ) (left : Bool) → v < 65536 → shifted v amount left < 65536
unfolding shifted
shifted_fits v amount true h = mod-lt (v * 2 ^ amount) (lit< tt)
shifted_fits v amount false h = lt_of_le_of_lt (shr_le v amount) h

pub moved-fits : (v amount : ℕ) (left : Bool) (imm : ℕ) → v < 65536 → imm < 65536 → moved v amount left imm < 65536
unfolding moved
moved-fits v amount left imm h k = or_lt 16 (shifted v amount left) imm (shifted_fits v amount left h) k

-- ---- 7 or 8

fitted-numbered : (n : ℕ) → Numbered 7 8 (fitted n)
unfolding fitted
fitted-numbered n = or-numbered (leb n 65535) n 7 7 8 (omega arith, omega arith)

module _ (a b : ℕ) where
  difference-numbered : Numbered 7 8 (difference a b)
  unfolding difference
  difference-numbered = or-numbered (leb b a) (a - b) 7 7 8 (omega arith, omega arith)

  divided-numbered : (v : ℕ) → Numbered 7 8 (cond (eqb b 0) (no 8) (is v))
  divided-numbered v = first-numbered (eqb b 0) v 8 7 8 (omega arith, omega arith)

pub arith-numbered : (op : ArithOp) (a b : ℕ) → Numbered 7 8 (arith_result op a b)
unfolding arith_result sum product quotient
arith-numbered four.Add a b = fitted-numbered (a + b)
arith-numbered four.Sub a b = difference-numbered a b
arith-numbered four.Mul a b = fitted-numbered (a * b)
arith-numbered four.Div a b = divided-numbered a b (a / b)

pub arithmetic-numbered : (op : ArithmeticOp) (a b : ℕ) → Numbered 7 8 (arithmetic_result op a b)
unfolding arithmetic_result sum product quotient remainder power
arithmetic-numbered seven.Add a b = fitted-numbered (a + b)
arithmetic-numbered seven.Sub a b = difference-numbered a b
arithmetic-numbered seven.Mul a b = fitted-numbered (a * b)
arithmetic-numbered seven.Div a b = divided-numbered a b (a / b)
arithmetic-numbered seven.Mod a b = divided-numbered a b (a % b)
arithmetic-numbered seven.Exp a b = fitted-numbered (a ^ b)
arithmetic-numbered seven.Sqrt a b = tt
