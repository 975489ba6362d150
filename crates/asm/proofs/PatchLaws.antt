-- Patching in place: those that stay open close up behind each other, so the kept ones and the rest are what is left to patch.
-- Assumes nothing.
use Prim.Native.Nat.{◌+◌, ◌-◌, ◌<◌, ◌≤◌, suc, ℕ}
use borrow.Author.Tests.{le-ltb, lt-ltb}
use lib.ListN.{drop, get_or, length, set, take}
use lib.Seq.{drop-set-lt, length-take-le}
use mathlib.Core.Bool.{Bool, false, true}
use mathlib.Core.List.{List, [], ◌++◌, ◌∷◌, append_assoc, append-nil}
use mathlib.Core.Path.{◌∙◌, ◌≡◌, ap, refl, sym}
use native.Mathlib.Nat.{sub-zero}
use native.Mathlib.Numerals.{add-one}
use native.Mathlib.Omega.{arith}
use Rattle.asm.specs.Labels.{Patched, add_open, keep, patch, patched_of}
use Rattle.asm.specs.Views.{Kept, kept_of, patch_one, patch_this}
use Rattle.asm.specs.Words.{word_of}
use Rattle.base.proofs.ToldLaws.{is-not-no, is_one}
use Rattle.base.specs.Choice.{cond}
use Rattle.base.specs.Told.{Told, is, no, ◌>>=◌}
use Rattle.labels.proofs.ListLaws.{drop-next, take-set, take_snoc}
use Rattle.labels.specs.Labels.{names}
use Rattle.labels.specs.Opens.{no_open}
use Rattle.parser.specs.References.{resolved}
use Rattle.labels.specs.declared.Open.{Open}

-- one more
module _ (waiting : List Open) (count : ℕ) (o : Open) (h : 512 ≤ length waiting) where
  pub add-open-next : count < 512 → is (take (count + 1) (set waiting count o)) ≡ add_open o (take count waiting)
  unfolding add_open
  add-open-next few =
      let l : length (take count waiting) ≡ count = length-take-le count waiting (omega arith) in
      rw (l, lt-ltb count 512 few) (ap is (take_snoc waiting count o (omega arith)))

  pub add-open-full : count ≤ 512 → 512 ≤ count → no 28 ≡ add_open o (take count waiting)
  unfolding add_open
  add-open-full few many =
      let l : length (take count waiting) ≡ count = length-take-le count waiting (omega arith) in
      rw (l, le-ltb count 512 many)

-- the kept references before what is left to patch
abbrev pub prepend : List Open → Told Patched → Told Patched
prepend kept (is p) = is (patched_of p.words (kept ++ p.waiting))
prepend kept (no n) = no n

pub prepend-none : (x : Told Patched) → prepend [] x ≡ x
prepend-none (is p) = refl
prepend-none (no n) = refl

prepend-keep : (kept : List Open) (o : Open) (x : Told Patched) → prepend kept (◌>>=◌ x (λ p. is (keep o p))) ≡ prepend (kept ++ (o ∷ [])) x
prepend-keep kept o (is p) = ap (λ (w : List Open). is (patched_of p.words w)) (sym (append_assoc kept (o ∷ []) p.waiting))
prepend-keep kept o (no n) = refl

module _ (strict : Bool) (text name : List ℕ) (address : ℕ) where
  -- what comes of the first m, where those up to i are patched or kept
  abbrev pub left-to-patch : ℕ → ℕ → ℕ → List Open → List ℕ → Told Patched
  left-to-patch m i kept waiting words = prepend (take kept waiting) (patch strict text name address (take (m - i) (drop i waiting)) words)

  module _ (m i kept : ℕ) (waiting : List Open) (words : List ℕ) (h : i < m) (l : m ≤ length waiting) (k : kept ≤ i) where
    next : take (m - i) (drop i waiting) ≡ get_or waiting i no_open ∷ take (m - (i + 1)) (drop (i + 1) waiting)
    next =
        let n : m - i ≡ suc (m - (i + 1)) = omega (arith, add-one (m - (i + 1))) in
        let d : drop i waiting ≡ get_or waiting i no_open ∷ drop (i + 1) waiting = drop-next waiting i no_open (omega arith) in
        rw (d, n)

    kept-one : (o : Open) (x : List Open) → prepend (take kept waiting) (◌>>=◌ (patch strict text name address x words) (λ p. is (keep o p)))
        ≡ prepend (take (kept + 1) (set waiting kept o)) (patch strict text name address x words)
    kept-one o x =
        let e : take (kept + 1) (set waiting kept o) ≡ take kept waiting ++ (o ∷ []) = take_snoc waiting kept o (omega arith) in
        prepend-keep (take kept waiting) o (patch strict text name address x words) ∙ ap (λ (y : List Open). prepend y (patch strict text name address x words)) (sym e)

    one : (o : Open) → prepend (take kept waiting) (patch strict text name address (o ∷ take (m - (i + 1)) (drop (i + 1) waiting)) words)
        ≡ ◌>>=◌ (patch_this strict text name address o kept words waiting) (λ s. left-to-patch m (i + 1) s.count s.waiting s.words)
    unfolding patch
    one o = go (names text o.place o.length name)
      where
        settled : (x : Told ℕ) →
            prepend (take kept waiting) (◌>>=◌ x (λ w. patch strict text name address (take (m - (i + 1)) (drop (i + 1) waiting)) (set words o.word.0 w)))
            ≡ ◌>>=◌ (◌>>=◌ x (λ w. is (kept_of kept (set words o.word.0 w) waiting))) (λ s. left-to-patch m (i + 1) s.count s.waiting s.words)
        settled (is w) = refl
        settled (no n) = refl

        go : (t : Bool) →
            prepend (take kept waiting) (cond t
            (◌>>=◌ (word_of strict (resolved o.reference address)) (λ w. patch strict text name address (take (m - (i + 1)) (drop (i + 1) waiting)) (set words o.word.0 w)))
            (◌>>=◌ (patch strict text name address (take (m - (i + 1)) (drop (i + 1) waiting)) words) (λ p. is (keep o p))))
            ≡ ◌>>=◌ (cond t
            (◌>>=◌ (word_of strict (resolved o.reference address)) (λ w. is (kept_of kept (set words o.word.0 w) waiting)))
            (is (kept_of (kept + 1) words (set waiting kept o)))) (λ s. left-to-patch m (i + 1) s.count s.waiting s.words)
        go true = settled (word_of strict (resolved o.reference address))
        go false = kept-one o (take (m - (i + 1)) (drop (i + 1) waiting)) ∙
            ap (λ (x : List Open). prepend (take (kept + 1) (set waiting kept o)) (patch strict text name address (take (m - (i + 1)) x) words)) (sym (drop-set-lt (i + 1) waiting kept o (omega arith)))

    pub patch-turn : left-to-patch m i kept waiting words
        ≡ ◌>>=◌ (patch_one strict text name address i kept words waiting) (λ s. left-to-patch m (i + 1) s.count s.waiting s.words)
    unfolding patch_one
    patch-turn = ap (λ (x : List Open). prepend (take kept waiting) (patch strict text name address x words)) next ∙ one (get_or waiting i no_open)

    pub patch-go : (s : Kept) → is s ≡ patch_one strict text name address i kept words waiting → left-to-patch m (i + 1) s.count s.waiting s.words ≡ left-to-patch m i kept waiting words
    patch-go s e = sym (patch-turn ∙ ap (λ (x : Told Kept). ◌>>=◌ x (λ s. left-to-patch m (i + 1) s.count s.waiting s.words)) (sym e))

    pub patch-stop : (n : ℕ) → no n ≡ patch_one strict text name address i kept words waiting → no n ≡ left-to-patch m i kept waiting words
    patch-stop n e = sym (patch-turn ∙ ap (λ (x : Told Kept). ◌>>=◌ x (λ s. left-to-patch m (i + 1) s.count s.waiting s.words)) (sym e))

    -- one more is kept, or none
    pub patch-kept : (s : Kept) → is s ≡ patch_one strict text name address i kept words waiting → s.count ≤ i + 1
    unfolding patch_one
    patch-kept s e = go (names text o.place o.length name) e
      where
        o : Open
        o = get_or waiting i no_open

        settled : (x : Told ℕ) → is s ≡ ◌>>=◌ x (λ w. is (kept_of kept (set words o.word.0 w) waiting)) → s.count ≤ i + 1
        settled (is w) q = omega (arith, ap (λ (y : Kept). y.count) (is_one s (kept_of kept (set words o.word.0 w) waiting) q))
        settled (no n) q = is-not-no s n q

        go : (t : Bool) → is s ≡ cond t
            (◌>>=◌ (word_of strict (resolved o.reference address)) (λ w. is (kept_of kept (set words o.word.0 w) waiting)))
            (is (kept_of (kept + 1) words (set waiting kept o))) → s.count ≤ i + 1
        go true q = settled (word_of strict (resolved o.reference address)) q
        go false q = omega (arith, ap (λ (y : Kept). y.count) (is_one s (kept_of (kept + 1) words (set waiting kept o)) q))

  pub patch-begin : (m : ℕ) (waiting : List Open) (words : List ℕ) → left-to-patch m 0 0 waiting words ≡ patch strict text name address (take m waiting) words
  patch-begin m waiting words = prepend-none (patch strict text name address (take (m - 0) waiting) words) ∙ ap (λ (n : ℕ). patch strict text name address (take n waiting) words) (sub-zero m)

  pub patch-end : (m kept : ℕ) (waiting : List Open) (words : List ℕ) → is (patched_of words (take kept waiting)) ≡ left-to-patch m m kept waiting words
  unfolding patch
  patch-end m kept waiting words =
      let z : m - m ≡ 0 = omega arith in
      rw z (ap (λ (w : List Open). is (patched_of words w)) (sym (append-nil (take kept waiting))))

  -- patching the first n words
  pub patch-take : (n : ℕ) (waiting : List Open) (words : List ℕ) →
      patch strict text name address waiting (take n words) ≡ ◌>>=◌ (patch strict text name address waiting words) (λ p. is (patched_of (take n p.words) p.waiting))
  unfolding patch
  patch-take n [] words = refl
  patch-take n (o ∷ waiting) words = go (names text o.place o.length name) (λ w. patch-take n waiting (set words o.word.0 w)) (patch-take n waiting words)
    where
      settled : (x : Told ℕ) →
          ((w : ℕ) → patch strict text name address waiting (take n (set words o.word.0 w)) ≡ ◌>>=◌ (patch strict text name address waiting (set words o.word.0 w)) (λ p. is (patched_of (take n p.words) p.waiting))) →
          ◌>>=◌ x (λ w. patch strict text name address waiting (set (take n words) o.word.0 w))
          ≡ ◌>>=◌ (◌>>=◌ x (λ w. patch strict text name address waiting (set words o.word.0 w))) (λ p. is (patched_of (take n p.words) p.waiting))
      settled (is w) ih = ap (λ (ws : List ℕ). patch strict text name address waiting ws) (sym (take-set n words o.word.0 w)) ∙ ih w
      settled (no k) ih = refl

      kept : (x y : Told Patched) → x ≡ ◌>>=◌ y (λ p. is (patched_of (take n p.words) p.waiting)) →
          ◌>>=◌ x (λ p. is (keep o p)) ≡ ◌>>=◌ (◌>>=◌ y (λ p. is (keep o p))) (λ p. is (patched_of (take n p.words) p.waiting))
      kept x (is p) e = rw e
      kept x (no k) e = rw e

      go : (t : Bool) →
          ((w : ℕ) → patch strict text name address waiting (take n (set words o.word.0 w)) ≡ ◌>>=◌ (patch strict text name address waiting (set words o.word.0 w)) (λ p. is (patched_of (take n p.words) p.waiting))) →
          patch strict text name address waiting (take n words) ≡ ◌>>=◌ (patch strict text name address waiting words) (λ p. is (patched_of (take n p.words) p.waiting)) →
          cond t (◌>>=◌ (word_of strict (resolved o.reference address)) (λ w. patch strict text name address waiting (set (take n words) o.word.0 w)))
          (◌>>=◌ (patch strict text name address waiting (take n words)) (λ p. is (keep o p)))
          ≡ ◌>>=◌ (cond t (◌>>=◌ (word_of strict (resolved o.reference address)) (λ w. patch strict text name address waiting (set words o.word.0 w)))
          (◌>>=◌ (patch strict text name address waiting words) (λ p. is (keep o p)))) (λ p. is (patched_of (take n p.words) p.waiting))
      go true ih1 ih2 = settled (word_of strict (resolved o.reference address)) ih1
      go false ih1 ih2 = kept (patch strict text name address waiting (take n words)) (patch strict text name address waiting words) ih2

-- one open reference, as the code looks at it: it waits for the name, and its word is put or refused; or it is kept
module _ (strict : Bool) (text name : List ℕ) (address i kept : ℕ) (words : List ℕ) (waiting : List Open) where
  abbrev this : Open
  this = get_or waiting i no_open

  abbrev its_word : Told ℕ
  its_word = word_of strict (resolved this.reference address)

  pub patch-hit : names text this.place this.length name ≡ true → (w : ℕ) → is w ≡ its_word →
      is (kept_of kept (set words this.word.0 w) waiting) ≡ patch_one strict text name address i kept words waiting
  unfolding patch_one
  patch-hit t w e = rw (t, ← e)

  pub patch-refused : names text this.place this.length name ≡ true → (n : ℕ) → no n ≡ its_word →
      no n ≡ patch_one strict text name address i kept words waiting
  unfolding patch_one
  patch-refused t n e = rw (t, ← e)

  pub patch-miss : names text this.place this.length name ≡ false →
      is (kept_of (kept + 1) words (set waiting kept this)) ≡ patch_one strict text name address i kept words waiting
  unfolding patch_one
  patch-miss t = rw t
