-- A printed number is read back: its bytes are decimal digits, so that no `+` and no `0x` stands before them, and the number that they
-- say is the same to the printer and to the reader. Assumes nothing.
use Prim.Native.Nat.{ℕ, zero, suc, ◌+◌, ◌-◌, ◌*◌, ◌/◌, ◌%◌, ◌<◌, ◌≤◌}
use mathlib.Core.Path.{◌≡◌, refl, ap, ◌∙◌}
use mathlib.Core.List.{List, [], ◌∷◌, ◌++◌}
use mathlib.Core.Bool.{Bool, true, false}
use native.Mathlib.Omega.{arith}
use borrow.Author.Tests.{le-leb, lt-ltb, ltb-true, ne_eqb}
use lib.Dec.{eqb, ltb}
use lib.ListN.{length, length-append}
use Rattle.base.specs.Choice.{cond}
use Rattle.base.specs.Told.{is}
use Rattle.text.specs.Immediates.{digit_of, all_digits, value_from, after_plus, is_hex, immediate}
use Rattle.text.specs.Parts.{equals, drop_end, keep_if}
use Rattle.text.proofs.JoinedLaws.{is_plain, every}
use Rattle.printer.specs.Text.{digit, digits, decimal_of, immediate_of}
use Rattle.printer.proofs.DecimalLaws.{further, decimal-value}

-- each byte is a decimal digit
abbrev Digits : List ℕ → Type 0
Digits [] = Unit {0}
Digits (x ∷ xs) = (48 ≤ x) × (x ≤ 57) × Digits xs

digits_append : (xs ys : List ℕ) → Digits xs → Digits ys → Digits (xs ++ ys)
digits_append [] ys h k = k
digits_append (x ∷ xs) ys h k = (h.0, h.1, digits_append xs ys h.2 k)

digits-digits : (k n : ℕ) → Digits (digits k n)
unfolding digits
digits-digits zero n = tt
digits-digits (suc k) n = go (ltb n 10) refl (digits-digits k (n / 10))
  where
    go : (t : Bool) → ltb n 10 ≡ t → Digits (digits k (n / 10)) → Digits (cond t (digit n ∷ []) (digits k (n / 10) ++ (digit (n % 10) ∷ [])))
    go true e i = let h = ltb-true n 10 e in (omega arith, omega arith, tt)
    go false e i = digits_append (digits k (n / 10)) (digit (n % 10) ∷ []) i (omega arith, omega arith, tt)

-- ---- as they are read

digit-of : (b : ℕ) → 48 ≤ b → b ≤ 57 → digit_of b ≡ b - 48
unfolding digit_of
digit-of b l h = rw (le-leb 48 b l, le-leb b 57 h)

all-digits : (xs : List ℕ) → Digits xs → all_digits 10 xs ≡ true
all-digits [] h = refl
all-digits (x ∷ xs) h =
    let l : x - 48 < 10 = omega (arith, h.0, h.1) in
    rw (digit-of x h.0 h.1, lt-ltb (x - 48) 10 l) (all-digits xs h.2)

no-hex : (xs : List ℕ) → Digits xs → is_hex xs ≡ false
no-hex [] h = refl
no-hex (x ∷ []) h = refl
no-hex (x ∷ y ∷ ys) h = go (eqb x 48)
  where
    go : (t : Bool) → cond t (eqb y 120) false ≡ false
    go true = ne_eqb y 120 (λ e. let k = h.2.1 in omega arith)
    go false = refl

no_plus : (xs : List ℕ) → Digits xs → after_plus xs ≡ xs
no_plus [] h = refl
no_plus (x ∷ xs) h = rw (ne_eqb x 43 (λ e. let k = h.0 in omega arith))

same-value : (v : ℕ) (xs : List ℕ) → Digits xs → value_from 10 v xs ≡ further v xs
same-value v [] h = refl
same-value v (x ∷ xs) h =
    let e : v * 10 + digit_of x ≡ 10 * v + (x - 48) = rw (digit-of x h.0 h.1) (omega arith) in
    same-value (v * 10 + digit_of x) xs h.2 ∙ ap (λ (k : ℕ). further k xs) e

-- ---- a number

some : (n : ℕ) → 0 < length (digits 5 n)
unfolding digits
some n = go (ltb n 10)
  where
    go : (t : Bool) → 0 < length (cond t (digit n ∷ []) (digits 4 (n / 10) ++ (digit (n % 10) ∷ [])))
    go true = omega arith
    go false = rw length-append (omega arith)

pub immediate-back : (n : ℕ) → n ≤ 65535 → immediate (immediate_of n) ≡ is n
unfolding immediate immediate_of decimal_of
immediate-back n h = whole (digits 5 n) (some n) (digits-digits 5 n) (decimal-value n (omega arith))
  where
    whole : (xs : List ℕ) → 0 < length xs → Digits xs → further 0 xs ≡ n → immediate (35 ∷ xs) ≡ is n
    whole [] s d v = absurd (omega arith)
    whole (x ∷ xs) s d v = rw (no-hex (x ∷ xs) d, no_plus (x ∷ xs) d, all-digits (x ∷ xs) d, same-value 0 (x ∷ xs) d, v, le-leb n 65535 h)

digits-plain : (xs : List ℕ) → Digits xs → every is_plain xs ≡ true
unfolding is_plain
digits-plain [] h = refl
digits-plain (x ∷ xs) h =
    let l : 33 ≤ x = omega (arith, h.0) in
    rw (le-leb 33 x l, le-leb x 57 h.1) (digits-plain xs h.2)

pub immediate-plain : (n : ℕ) → every is_plain (immediate_of n) ≡ true
unfolding immediate_of decimal_of is_plain
immediate-plain n = digits-plain (digits 5 n) (digits-digits 5 n)

-- ---- with a bracket behind it

closed-digits : (xs : List ℕ) → Digits xs → drop_end (equals 93) (xs ++ 93 ∷ []) ≡ xs
closed-digits [] h = refl
closed-digits (x ∷ xs) h = rw (closed-digits xs h.2) (go xs)
  where
    go : (ys : List ℕ) → keep_if (eqb x 93) x ys ≡ x ∷ ys
    go [] = rw (ne_eqb x 93 (λ e. let k = h.1 in omega arith))
    go (y ∷ ys) = refl

pub closed-number : (n : ℕ) → drop_end (equals 93) (immediate_of n ++ 93 ∷ []) ≡ immediate_of n
unfolding immediate_of decimal_of
closed-number n = rw (closed-digits (digits 5 n) (digits-digits 5 n)) (go (digits 5 n))
  where
    go : (ys : List ℕ) → keep_if false 35 ys ≡ 35 ∷ ys
    go [] = refl
    go (y ∷ ys) = refl
