-- What the crates above may use of FLAGS: which bits a comparison and a failed store change, and that they change no other.
-- Both work bit by bit, and the bits of the constants are computed. Assumes nothing.
use mathlib.Core.Path.{◌≡◌, refl, sym, ap, ap₂, ◌∙◌}
use mathlib.Core.Bool.{Bool, true, false, not, ◌&&◌, ◌||◌}
use mathlib.Core.List.{List, [], ◌∷◌}
use Prim.Native.Nat.{ℕ, zero, suc, ◌+◌, ◌*◌, ◌/◌, ◌%◌, ◌^◌, ◌<◌, min, max}
use native.Mathlib.Nat.{div-one, mod-lt, le_of_suc-le-suc, lt_of_le_of_lt, not-suc-le-zero}
use native.Mathlib.Numerals.{one-add}
use lib.Bits.{bit_and, bit_or, and_step, or_step, and_le_l, or_lt}
use lib.Dec.{T, eqb, lit<}
use lib.Pow.{shr-shr, high, low}
use Rattle.base.specs.Choice.{cond}
use Rattle.fields.proofs.Table.{at}
use Rattle.arithmetic.specs.Flags.{flag, compared, failed}

-- ---- bit by bit

flag-first : (w : ℕ) → flag w 0 ≡ eqb (w % 2) 1
unfolding flag
flag-first w = ap (λ (n : ℕ). eqb (n % 2) 1) (div-one w)

flag-next : (w k : ℕ) → flag w (suc k) ≡ flag (w / 2) k
unfolding flag
flag-next w k =
    ap (λ (n : ℕ). eqb (w / 2 ^ n % 2) 1) (sym (one-add k)) ∙ ap (λ (n : ℕ). eqb (n % 2) 1) (sym (shr-shr w 1 k))

-- an operation that makes each bit, f, of the two bits, which is the test g of the two tests
module _ (op f : ℕ → ℕ → ℕ) (g : Bool → Bool → Bool)
    (step : (a b : ℕ) → op a b ≡ op (a / 2) (b / 2) * 2 + f (a % 2) (b % 2))
    (bit : (x y : ℕ) → x < 2 → y < 2 → (f x y < 2) × (eqb (f x y) 1 ≡ g (eqb x 1) (eqb y 1))) where
  odd : (n : ℕ) → n % 2 < 2
  odd n = mod-lt n (lit< tt)

  each : (k a b : ℕ) → flag (op a b) k ≡ g (flag a k) (flag b k)
  each zero a b =
      flag-first (op a b)
      ∙ ap (λ (n : ℕ). eqb (n % 2) 1) (step a b)
      ∙ ap (λ (n : ℕ). eqb n 1) (low (op (a / 2) (b / 2)) 1 (bit (a % 2) (b % 2) (odd a) (odd b)).0)
      ∙ (bit (a % 2) (b % 2) (odd a) (odd b)).1
      ∙ sym (ap₂ g (flag-first a) (flag-first b))
  each (suc k) a b =
      flag-next (op a b) k
      ∙ ap (λ (n : ℕ). flag (n / 2) k) (step a b)
      ∙ ap (λ (n : ℕ). flag n k) (high (op (a / 2) (b / 2)) 1 (bit (a % 2) (b % 2) (odd a) (odd b)).0)
      ∙ each k (a / 2) (b / 2)
      ∙ sym (ap₂ g (flag-next a k) (flag-next b k))

or-bit : (x y : ℕ) → x < 2 → y < 2 → (max x y < 2) × (eqb (max x y) 1 ≡ (eqb x 1 || eqb y 1))
or-bit zero zero h k = (lit< tt, refl)
or-bit zero (suc zero) h k = (lit< tt, refl)
or-bit (suc zero) zero h k = (lit< tt, refl)
or-bit (suc zero) (suc zero) h k = (lit< tt, refl)
or-bit (suc (suc x)) y h k = absurd (not-suc-le-zero (le_of_suc-le-suc (le_of_suc-le-suc h)))
or-bit zero (suc (suc y)) h k = absurd (not-suc-le-zero (le_of_suc-le-suc (le_of_suc-le-suc k)))
or-bit (suc zero) (suc (suc y)) h k = absurd (not-suc-le-zero (le_of_suc-le-suc (le_of_suc-le-suc k)))

and-bit : (x y : ℕ) → x < 2 → y < 2 → (min x y < 2) × (eqb (min x y) 1 ≡ (eqb x 1 && eqb y 1))
and-bit zero zero h k = (lit< tt, refl)
and-bit zero (suc zero) h k = (lit< tt, refl)
and-bit (suc zero) zero h k = (lit< tt, refl)
and-bit (suc zero) (suc zero) h k = (lit< tt, refl)
and-bit (suc (suc x)) y h k = absurd (not-suc-le-zero (le_of_suc-le-suc (le_of_suc-le-suc h)))
and-bit zero (suc (suc y)) h k = absurd (not-suc-le-zero (le_of_suc-le-suc (le_of_suc-le-suc k)))
and-bit (suc zero) (suc (suc y)) h k = absurd (not-suc-le-zero (le_of_suc-le-suc (le_of_suc-le-suc k)))

pub or-flag : (k a b : ℕ) → flag (bit_or a b) k ≡ (flag a k || flag b k)
or-flag = each bit_or max (λ t u. t || u) or_step or-bit

pub and-flag : (k a b : ℕ) → flag (bit_and a b) k ≡ (flag a k && flag b k)
and-flag = each bit_and min (λ t u. t && u) and_step and-bit

-- ---- the constants

sixteen : List ℕ
sixteen = 0 ∷ 1 ∷ 2 ∷ 3 ∷ 4 ∷ 5 ∷ 6 ∷ 7 ∷ 8 ∷ 9 ∷ 10 ∷ 11 ∷ 12 ∷ 13 ∷ 14 ∷ 15 ∷ []

alike : Bool → Bool → Bool
alike t u = cond t u (not u)

alike_same : (t u : Bool) → T (alike t u) → t ≡ u
unfolding alike
alike_same true true h = refl
alike_same true false h = absurd h
alike_same false true h = absurd h
alike_same false false h = refl

-- bit 3 of 8 alone
eight : (k : ℕ) → k < 16 → flag 8 k ≡ eqb k 3
unfolding alike flag sixteen
eight k h = alike_same (flag 8 k) (eqb k 3) (at (λ k x. alike (flag 8 k) (eqb k 3)) sixteen tt k h)

-- all but bit 3
but-eight : (k : ℕ) → k < 16 → flag 65527 k ≡ not (eqb k 3)
unfolding alike flag sixteen
but-eight k h = alike_same (flag 65527 k) (not (eqb k 3)) (at (λ k x. alike (flag 65527 k) (not (eqb k 3))) sixteen tt k h)

-- bits 0 and 2
five : (k : ℕ) → k < 16 → flag 5 k ≡ (eqb k 0 || eqb k 2)
unfolding alike flag sixteen
five k h = alike_same (flag 5 k) (eqb k 0 || eqb k 2) (at (λ k x. alike (flag 5 k) (eqb k 0 || eqb k 2)) sixteen tt k h)

-- ---- FLAGS

set-bit : (f t : Bool) → (f || t) ≡ cond t true f
set-bit true true = refl
set-bit true false = refl
set-bit false true = refl
set-bit false false = refl

clear-bit : (f t : Bool) → (f && not t) ≡ cond t false f
clear-bit true true = refl
clear-bit true false = refl
clear-bit false true = refl
clear-bit false false = refl

-- a comparison changes bit 3 alone, into what was found
pub compared-flags : (flags : ℕ) (t : Bool) (k : ℕ) → k < 16 → flag (compared flags t) k ≡ cond (eqb k 3) t (flag flags k)
unfolding compared
compared-flags flags true k h = or-flag k flags 8 ∙ ap (λ (t : Bool). flag flags k || t) (eight k h) ∙ set-bit (flag flags k) (eqb k 3)
compared-flags flags false k h = and-flag k flags 65527 ∙ ap (λ (t : Bool). flag flags k && t) (but-eight k h) ∙ clear-bit (flag flags k) (eqb k 3)

-- a failed store sets bits 0 and 2, and changes no other
pub failed-flags : (flags k : ℕ) → k < 16 → flag (failed flags) k ≡ (flag flags k || (eqb k 0 || eqb k 2))
unfolding failed
failed-flags flags k h = or-flag k flags 5 ∙ ap (λ (t : Bool). flag flags k || t) (five k h)

-- both have sixteen bits
pub compared-fits : (flags : ℕ) (t : Bool) → flags < 65536 → compared flags t < 65536
unfolding compared
compared-fits flags true h = or_lt 16 flags 8 h (lit< tt)
compared-fits flags false h = lt_of_le_of_lt (and_le_l flags 65527) h

pub failed-fits : (flags : ℕ) → flags < 65536 → failed flags < 65536
unfolding failed
failed-fits flags h = or_lt 16 flags 5 h (lit< tt)
