-- A line made of plain tokens with one space between them has these tokens, and trimming takes nothing from it: no plain byte is a
-- blank, a colon or a semicolon. Assumes nothing.
use Prim.Native.Nat.{ℕ, ◌<◌, ◌≤◌}
use mathlib.Core.Path.{◌≡◌, refl, ap, ◌∙◌}
use mathlib.Core.List.{List, [], ◌∷◌, ◌++◌}
use mathlib.Core.Bool.{Bool, true, false, ◌&&◌, ◌||◌}
use native.Mathlib.Omega.{arith}
use borrow.Author.Tests.{leb-true, lt-leb, ne_eqb}
use lib.Dec.{eqb, leb}
use lib.ListN.{length, length-append}
use Rattle.base.specs.Choice.{cond}
use Rattle.base.proofs.Tests.{clash}
use Rattle.text.specs.Parts.{is_blank, drop_end, keep_if}
use Rattle.text.specs.Tokens.{tokens}

-- tokens with one space between them
abbrev pub joined : List (List ℕ) → List ℕ
joined [] = []
joined (t ∷ []) = t
joined (t ∷ u ∷ ts) = t ++ 32 ∷ joined (u ∷ ts)

-- a byte of such a token: from 33 to 93, but 58 to 64
unfoldable pub is_plain : ℕ → Bool
is_plain b = cond (leb 33 b) (cond (leb b 57) true (leb 65 b && leb b 93)) false

abbrev pub every : (ℕ → Bool) → List ℕ → Bool
every p [] = true
every p (x ∷ xs) = cond (p x) (every p xs) false

-- a test of the first and of the others
pub every-parts : (p : ℕ → Bool) (x : ℕ) (xs : List ℕ) → every p (x ∷ xs) ≡ true → (p x ≡ true) × (every p xs ≡ true)
every-parts p x xs e = go (p x) refl e
  where
    go : (b : Bool) → p x ≡ b → cond b (every p xs) false ≡ true → (p x ≡ true) × (every p xs ≡ true)
    go true q h = (q, h)
    go false q h = clash h

pub every_append : (p : ℕ → Bool) (xs ys : List ℕ) → every p xs ≡ true → every p ys ≡ true → every p (xs ++ ys) ≡ true
every_append p [] ys e f = f
every_append p (x ∷ xs) ys e f =
    let h = every-parts p x xs e in
    rw h.0 (every_append p xs ys h.1 f)

-- ---- what a plain byte is not
pub record Ranged (b : ℕ) : Type 0 where
  pub low : 33 ≤ b
  pub high : b ≤ 93
  pub colon : b ≡ 58 → ⊥
  pub semicolon : b ≡ 59 → ⊥

pub ranged : (b : ℕ) → is_plain b ≡ true → Ranged b
unfolding is_plain
ranged b e = go (leb 33 b) (leb b 57) (leb 65 b) (leb b 93) refl refl refl refl e
  where
    go : (p q r s : Bool) → leb 33 b ≡ p → leb b 57 ≡ q → leb 65 b ≡ r → leb b 93 ≡ s → cond p (cond q true (r && s)) false ≡ true → Ranged b
    go true true r s a c d f e =
        let x = leb-true 33 b a in
        let y = leb-true b 57 c in
        record { low = x; high = omega arith; colon = λ z. omega arith; semicolon = λ z. omega arith }
    go true false true true a c d f e =
        let x = leb-true 65 b d in
        let y = leb-true b 93 f in
        record { low = omega arith; high = y; colon = λ z. omega arith; semicolon = λ z. omega arith }
    go true false true false a c d f e = clash e
    go true false false s a c d f e = clash e
    go false q r s a c d f e = clash e

pub plain-black : (b : ℕ) → is_plain b ≡ true → is_blank b ≡ false
unfolding is_blank
plain-black b e =
    let r = ranged b e in
    let l = r.low in
    let x : leb b 13 ≡ false = lt-leb b 13 (omega arith) in
    let y : eqb b 32 ≡ false = ne_eqb b 32 (λ z. omega arith) in
    go (leb 9 b) x y
  where
    go : (t : Bool) → leb b 13 ≡ false → eqb b 32 ≡ false → (t && leb b 13 || eqb b 32) ≡ false
    go true x y = rw (x, y)
    go false x y = rw y

pub plain-colon : (b : ℕ) → is_plain b ≡ true → eqb b 58 ≡ false
plain-colon b e = ne_eqb b 58 (ranged b e).colon

pub plain-semicolon : (b : ℕ) → is_plain b ≡ true → eqb b 59 ≡ false
plain-semicolon b e = ne_eqb b 59 (ranged b e).semicolon

-- ---- tokens

space : is_blank 32 ≡ true
unfolding is_blank
space = refl

-- a word before a space is a token
pub token-space : (x : ℕ) (xs r : List ℕ) → every is_plain (x ∷ xs) ≡ true → tokens ((x ∷ xs) ++ 32 ∷ r) ≡ (x ∷ xs) ∷ tokens r
token-space x [] r e = let h = plain-black x (every-parts is_plain x [] e).0 in rw (h, space)
token-space x (y ∷ ys) r e =
    let h = every-parts is_plain x (y ∷ ys) e in
    let k = every-parts is_plain y ys h.1 in
    rw (plain-black x h.0, token-space y ys r h.1, plain-black y k.0)

pub token-last : (x : ℕ) (xs : List ℕ) → every is_plain (x ∷ xs) ≡ true → tokens (x ∷ xs) ≡ (x ∷ xs) ∷ []
token-last x [] e = let h = plain-black x (every-parts is_plain x [] e).0 in rw h
token-last x (y ∷ ys) e =
    let h = every-parts is_plain x (y ∷ ys) e in
    let k = every-parts is_plain y ys h.1 in
    rw (plain-black x h.0, token-last y ys h.1, plain-black y k.0)

-- ---- a line made of tokens

abbrev pub Plains : List (List ℕ) → Type 0
Plains [] = Unit {0}
Plains ([] ∷ ts) = ⊥
Plains ((x ∷ xs) ∷ ts) = (every is_plain (x ∷ xs) ≡ true) × Plains ts

-- the tokens of a line are those that it is made of
pub tokens-joined : (ts : List (List ℕ)) → Plains ts → tokens (joined ts) ≡ ts
tokens-joined [] h = refl
tokens-joined ([] ∷ ts) h = absurd h
tokens-joined ((x ∷ xs) ∷ []) h = token-last x xs h.0
tokens-joined ((x ∷ xs) ∷ u ∷ ts) h = token-space x xs (joined (u ∷ ts)) h.0 ∙ ap (λ (l : List (List ℕ)). (x ∷ xs) ∷ l) (tokens-joined (u ∷ ts) h.1)

-- ---- trimming it

-- the last byte passes no test that plain bytes don't pass
pub end_kept : (p : ℕ → Bool) → ((b : ℕ) → is_plain b ≡ true → p b ≡ false) → (x : ℕ) (xs : List ℕ) → every is_plain (x ∷ xs) ≡ true → drop_end p (x ∷ xs) ≡ x ∷ xs
end_kept p k x [] e = rw (k x (every-parts is_plain x [] e).0)
end_kept p k x (y ∷ ys) e =
    let h = every-parts is_plain x (y ∷ ys) e in
    rw (end_kept p k y ys h.1)

end-cons : (p : ℕ → Bool) (x : ℕ) (xs : List ℕ) → 0 < length xs → drop_end p xs ≡ xs → drop_end p (x ∷ xs) ≡ x ∷ xs
end-cons p x [] h e = absurd (omega arith)
end-cons p x (y ∷ ys) h e = ap (keep_if (p x) x) e

pub end-front : (p : ℕ → Bool) (xs ys : List ℕ) → 0 < length ys → drop_end p ys ≡ ys → drop_end p (xs ++ ys) ≡ xs ++ ys
end-front p [] ys h e = e
end-front p (x ∷ xs) ys h e = end-cons p x (xs ++ ys) (omega (arith, length-append xs ys)) (end-front p xs ys h e)

some-joined : (t : List ℕ) (ts : List (List ℕ)) → Plains (t ∷ ts) → 0 < length (joined (t ∷ ts))
some-joined [] ts h = absurd h
some-joined (x ∷ xs) [] h = omega arith
some-joined (x ∷ xs) (u ∷ ts) h = omega arith

pub joined-kept : (p : ℕ → Bool) → ((b : ℕ) → is_plain b ≡ true → p b ≡ false) → (ts : List (List ℕ)) → Plains ts → drop_end p (joined ts) ≡ joined ts
joined-kept p k [] h = refl
joined-kept p k ([] ∷ ts) h = absurd h
joined-kept p k ((x ∷ xs) ∷ []) h = end_kept p k x xs h.0
joined-kept p k ((x ∷ xs) ∷ u ∷ ts) h =
    let j = joined (u ∷ ts) in
    end-front p (x ∷ xs) (32 ∷ j) (omega arith) (end-cons p 32 j (some-joined u ts h.1) (joined-kept p k (u ∷ ts) h.1))

-- a colon is no blank
pub colon-kept : drop_end is_blank (58 ∷ []) ≡ 58 ∷ []
unfolding is_blank
colon-kept = refl

-- the first byte of a line
pub record Heads (l : List ℕ) : Type 0 where
  pub head : ℕ
  pub tail : List ℕ
  pub is : l ≡ head ∷ tail
  pub plain : is_plain head ≡ true

pub headed : (t : List ℕ) (ts : List (List ℕ)) → Plains (t ∷ ts) → Heads (joined (t ∷ ts))
headed [] ts h = absurd h
headed (x ∷ xs) [] h = record { head = x; tail = xs; is = refl; plain = (every-parts is_plain x xs h.0).0 }
headed (x ∷ xs) (u ∷ ts) h = record { head = x; tail = xs ++ 32 ∷ joined (u ∷ ts); is = refl; plain = (every-parts is_plain x xs h.0).0 }
