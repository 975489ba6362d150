-- The digits of a number of 64 bits are those of its tens and its last one; four hex digits tell a number of sixteen bits, digit by
-- digit; how many digits there are, and that each is a byte below 128. Assumes nothing.
use mathlib.Core.Path.{◌≡◌, refl, sym, ◌∙◌}
use mathlib.Core.Bool.{Bool, true, false}
use mathlib.Core.List.{List, [], ◌∷◌, ◌++◌}
use Prim.Native.Nat.{ℕ, ◌+◌, ◌/◌, ◌%◌, ◌≤◌, ◌<◌}
use native.Mathlib.Omega.{arith}
use borrow.Author.Tests.{lt-ltb, ltb-true, ltb-false}
use lib.Dec.{ltb}
use lib.ListN.{length}
use Rattle.base.specs.Choice.{cond}
use Rattle.printer.specs.Text.{digit}
use Rattle.printer.proofs.AsciiLaws.{ascii, digits-ascii}
use Rattle.printer.proofs.DecimalLaws.{digits-one, digits_more, digits-length}
use Rattle.pen.specs.Numbers.{hex_digit, hex, decimal}

pub decimal-one : (n : ℕ) → n < 10 → decimal n ≡ digit n ∷ []
unfolding decimal
decimal-one n h = digits-one 19 n h

pub decimal-more : (n : ℕ) → 10 ≤ n → n ≤ 18446744073709551615 → decimal n ≡ decimal (n / 10) ++ (digit (n % 10) ∷ [])
unfolding decimal
decimal-more n g h = digits_more 18 n g (omega arith)

-- ---- a number is told by its hex digits

digit-one : (d e : ℕ) → d < 16 → e < 16 → hex_digit d ≡ hex_digit e → d ≡ e
digit-one d e h k q = go (ltb d 10) (ltb e 10) refl refl q
  where
    go : (t u : Bool) → ltb d 10 ≡ t → ltb e 10 ≡ u → cond t (48 + d) (55 + d) ≡ cond u (48 + e) (55 + e) → d ≡ e
    go true true a b q = omega arith
    go true false a b q = let x = ltb-true d 10 a in let y = ltb-false e 10 b in omega arith
    go false true a b q = let x = ltb-false d 10 a in let y = ltb-true e 10 b in omega arith
    go false false a b q = omega arith

cons_head : (x y : ℕ) (xs ys : List ℕ) → (x ∷ xs) ≡ (y ∷ ys) → x ≡ y
cons_head x y xs ys e = cc

cons_tail : (x y : ℕ) (xs ys : List ℕ) → (x ∷ xs) ≡ (y ∷ ys) → xs ≡ ys
cons_tail x y xs ys e = cc

-- a number by its last hex digit and the others
by-digit : (x y : ℕ) → x / 16 ≡ y / 16 → x % 16 ≡ y % 16 → x ≡ y
by-digit x y e f = omega arith

above : (x : ℕ) → x / 16 / 16 ≡ x / 256
above x = omega arith

top : (x : ℕ) → x / 256 / 16 ≡ x / 4096
top x = omega arith

top_digit : (x : ℕ) → x < 65536 → x / 4096 % 16 ≡ x / 4096
top_digit x h = omega arith

pub hex-one : (a b : ℕ) → a < 65536 → b < 65536 → hex a ≡ hex b → a ≡ b
unfolding hex
hex-one a b h k e =
    let e1 = cons_tail _ _ _ _ e in
    let e2 = cons_tail _ _ _ _ e1 in
    let e3 = cons_tail _ _ _ _ e2 in
    let d0 : a / 4096 % 16 ≡ b / 4096 % 16 = digit-one (a / 4096 % 16) (b / 4096 % 16) (omega arith) (omega arith) (cons_head _ _ _ _ e) in
    let d1 : a / 256 % 16 ≡ b / 256 % 16 = digit-one (a / 256 % 16) (b / 256 % 16) (omega arith) (omega arith) (cons_head _ _ _ _ e1) in
    let d2 : a / 16 % 16 ≡ b / 16 % 16 = digit-one (a / 16 % 16) (b / 16 % 16) (omega arith) (omega arith) (cons_head _ _ _ _ e2) in
    let d3 : a % 16 ≡ b % 16 = digit-one (a % 16) (b % 16) (omega arith) (omega arith) (cons_head _ _ _ _ e3) in
    let f0 : a / 4096 ≡ b / 4096 = sym (top_digit a h) ∙ d0 ∙ top_digit b k in
    let f1 : a / 256 ≡ b / 256 = by-digit (a / 256) (b / 256) (top a ∙ f0 ∙ sym (top b)) d1 in
    let f2 : a / 16 ≡ b / 16 = by-digit (a / 16) (b / 16) (above a ∙ f1 ∙ sym (above b)) d2 in
    by-digit a b f2 d3

-- ---- lengths

pub hex-length : (n : ℕ) → length (hex n) ≡ 4
unfolding hex
hex-length n = refl

pub decimal-length : (n : ℕ) → length (decimal n) ≤ 20
unfolding decimal
decimal-length n = digits-length 20 n

-- ---- bytes below 128

digit-ascii : (n : ℕ) → ltb (hex_digit (n % 16)) 128 ≡ true
digit-ascii n = go (ltb (n % 16) 10)
  where
    go : (t : Bool) → ltb (cond t (48 + n % 16) (55 + n % 16)) 128 ≡ true
    go true = let h : 48 + n % 16 < 128 = omega arith in lt-ltb _ _ h
    go false = let h : 55 + n % 16 < 128 = omega arith in lt-ltb _ _ h

pub hex-ascii : (n : ℕ) → ascii (hex n) ≡ true
unfolding hex ascii
hex-ascii n = rw (digit-ascii (n / 4096), digit-ascii (n / 256), digit-ascii (n / 16), digit-ascii n)

pub decimal-ascii : (n : ℕ) → ascii (decimal n) ≡ true
unfolding decimal
decimal-ascii n = digits-ascii 20 n
