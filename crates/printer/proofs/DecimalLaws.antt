-- Where a number has no more digits than are allowed, allowing more changes nothing; the library's digits are these; and they say the number.
-- Assumes nothing.
use mathlib.Core.Path.{◌≡◌, refl, sym, ap, ap₂, subst, ◌∙◌}
use mathlib.Core.Bool.{Bool, true, false}
use mathlib.Core.List.{List, [], ◌∷◌, ◌++◌}
use Prim.Native.Nat.{ℕ, zero, suc, ◌+◌, ◌-◌, ◌*◌, ◌/◌, ◌%◌, ◌^◌, ◌≤◌, ◌<◌, zero-le}
use native.Mathlib.Nat.{lt_of_lt_of_le, le-suc, pow-le-pow_right, div-lt_iff_lt-mul, pow-suc, zero-add}
use native.Mathlib.Omega.{arith}
use borrow.Author.Tests.{lt-ltb, le-ltb}
use lib.Dec.{ltb}
use lib.ListN.{length, length-append}
use Rattle.io.specs.Digits.{hex_digit_ascii, last_digits, IsDigitCount}
use Rattle.base.specs.Choice.{cond}
use Rattle.printer.specs.Line.{added}
use Rattle.printer.proofs.LineLaws.{whole}
use Rattle.printer.specs.Text.{digit, digits, decimal_of}

pub digits-one : (k n : ℕ) → n < 10 → digits (suc k) n ≡ digit n ∷ []
unfolding digits
digits-one k n h = rw (lt-ltb n 10 h)

pub decimal-one : (n : ℕ) → n < 10 → decimal_of n ≡ digit n ∷ []
unfolding decimal_of
decimal-one n h = digits-one 4 n h

fewer : (k n : ℕ) → n < 10 ^ suc (suc k) → n / 10 < 10 ^ suc k
fewer k n h = (div-lt_iff_lt-mul {k = 10} (omega arith)).1 (rw (pow-suc 10 (suc k)) at h)

steady : (k n : ℕ) → n < 10 ^ suc k → digits (suc k) n ≡ digits (suc (suc k)) n
unfolding digits
steady zero n h = let f : n < 10 = h in rw (lt-ltb n 10 f)
steady (suc k) n h = rw (steady k (n / 10) (fewer k n h))

tens : (k n : ℕ) → 10 ≤ n → digits (suc k) n ≡ digits k (n / 10) ++ (digit (n % 10) ∷ [])
unfolding digits
tens k n h = rw (le-ltb n 10 h)

pub digits_more : (k n : ℕ) → 10 ≤ n → n < 10 ^ suc (suc k) → digits (suc (suc k)) n ≡ digits (suc (suc k)) (n / 10) ++ (digit (n % 10) ∷ [])
digits_more k n g h = tens (suc k) n g ∙ rw (steady k (n / 10) (fewer k n h))

-- as many digits as are allowed or more
steady-by : (j k n : ℕ) → n < 10 ^ suc k → digits (suc k) n ≡ digits (j + suc k) n
steady-by zero k n h = ap (λ (m : ℕ). digits m n) (sym (zero-add (suc k)))
steady-by (suc j) k n h = steady k n h ∙ steady-by j (suc k) n (lt_of_lt_of_le h (pow-le-pow_right (omega arith) (le-suc (suc k)))) ∙ ap (λ (m : ℕ). digits m n) (omega arith)

-- a number of sixteen bits, at twenty digits
pub decimal_twenty : (n : ℕ) → n < 65536 → decimal_of n ≡ digits 20 n
unfolding decimal_of
decimal_twenty n h = steady-by 15 4 n (omega arith)

pub decimal-more : (n : ℕ) → 10 ≤ n → n < 65536 → decimal_of n ≡ decimal_of (n / 10) ++ (digit (n % 10) ∷ [])
unfolding decimal_of
decimal-more n g h = digits_more 3 n g (omega arith)

pub digits-length : (k n : ℕ) → length (digits k n) ≤ k
unfolding digits
digits-length zero n = zero-le
digits-length (suc k) n = go (ltb n 10) (digits-length k (n / 10))
  where
    go : (t : Bool) → length (digits k (n / 10)) ≤ k → length (cond t (digit n ∷ []) (digits k (n / 10) ++ (digit (n % 10) ∷ []))) ≤ suc k
    go true h = omega arith
    go false h = rw length-append (omega arith)

-- a line has room for twenty
pub digits_whole : (n : ℕ) → added [] (digits 20 n) ≡ digits 20 n
digits_whole n = whole (digits 20 n) (omega (arith, digits-length 20 n))

-- ---- the library's digits

glyph : (d : ℕ) → d < 10 → hex_digit_ascii d ≡ digit d
glyph d h = rw (lt-ltb d 10 h)

by-count : (j k n : ℕ) → 1 ≤ k → k ≤ j → n < 10 ^ k → ((m : ℕ) → k ≡ suc (suc m) → 10 ^ suc m ≤ n) → digits j n ≡ last_digits 10 k n
by-count j zero n a b h g = absurd (omega arith)
by-count zero (suc k) n a b h g = absurd (omega arith)
by-count (suc j) (suc zero) n a b h g =
    let s : n < 10 = h in
    let e : n % 10 ≡ n = omega arith in
    digits-one j n s ∙ ap (λ (x : ℕ). x ∷ []) (sym (glyph (n % 10) (omega arith) ∙ ap digit e))
by-count (suc j) (suc (suc k)) n a b h g =
    let t : 10 ^ suc k ≤ n = g k refl in
    let one : 1 ≤ suc k = omega arith in
    let base : 0 < 10 = omega arith in
    let u : 10 ≤ 10 ^ suc k = pow-le-pow_right base one in
    tens j n (omega arith)
    ∙ ap₂ ◌++◌ (by-count j (suc k) (n / 10) (omega arith) (omega arith) (fewer k n h) next) (ap (λ (x : ℕ). x ∷ []) (sym (glyph (n % 10) (omega arith))))
  where
    next : (m : ℕ) → suc k ≡ suc (suc m) → 10 ^ suc m ≤ n / 10
    next m e =
        let t : 10 ^ suc k ≤ n = g k refl in
        let p : 10 ^ suc k ≡ 10 ^ suc m * 10 = ap (λ (x : ℕ). 10 ^ x) e ∙ pow-suc 10 (suc m) in
        omega arith

-- as many as it counts, at most twenty
pub library_digits : (n k : ℕ) → k ≤ 20 → IsDigitCount 10 1 n k → last_digits 10 k n ≡ digits 20 n
library_digits n k b c = sym (by-count 20 k n c.0 b c.1 first)
  where
    first : (m : ℕ) → k ≡ suc (suc m) → 10 ^ suc m ≤ n
    first m e =
        let p : k - 1 ≡ suc m = omega arith in
        subst (λ (x : ℕ). 10 ^ x ≤ n) p (c.2 (omega arith))

-- ---- the number that digits say

abbrev pub further : ℕ → List ℕ → ℕ
further v [] = v
further v (b ∷ bs) = further (10 * v + (b - 48)) bs

abbrev pub value : List ℕ → ℕ
value bs = further 0 bs

value-last : (v : ℕ) (bs : List ℕ) (b : ℕ) → further v (bs ++ (b ∷ [])) ≡ 10 * further v bs + (b - 48)
value-last v [] b = refl
value-last v (a ∷ bs) b = value-last (10 * v + (a - 48)) bs b

digits_value : (k n : ℕ) → n < 10 ^ suc k → value (digits (suc k) n) ≡ n
unfolding digits
digits_value zero n h = let f : n < 10 = h in rw (lt-ltb n 10 f) (omega arith)
digits_value (suc k) n h = go (ltb n 10) refl (digits_value k (n / 10) (fewer k n h))
  where
    go : (t : Bool) → ltb n 10 ≡ t → value (digits (suc k) (n / 10)) ≡ n / 10
        → value (cond t (digit n ∷ []) (digits (suc k) (n / 10) ++ (digit (n % 10) ∷ []))) ≡ n
    go true e i = omega arith
    go false e i = value-last 0 (digits (suc k) (n / 10)) (digit (n % 10)) ∙ rw i (omega arith)

pub decimal-value : (n : ℕ) → n < 65536 → value (decimal_of n) ≡ n
unfolding decimal_of
decimal-value n h = digits_value 4 n (omega arith)
