-- What the crates above may use of words: where a linear one is read, what becomes of a word's store in each case, and that it is read back. Assumes nothing.
use mathlib.Core.Path.{◌≡◌, ◌∙◌}
use mathlib.Core.Bool.{Bool, true, false}
use Prim.Native.Nat.{ℕ, ◌+◌, ◌<◌}
use native.Mathlib.Omega.{arith}
use lib.ListN.{length, get_or}
use Rattle.std.specs.Prelude.{Option, Some, None}
use Rattle.base.specs.Addresses.{second_address, address_or}
use Rattle.base.specs.Choice.{cond}
use Rattle.base.specs.Told.{Told, is, no, ◌>>=◌}
use Rattle.base.proofs.ToldLaws.{Numbered}
use Rattle.base.specs.Words.{word_of, low_of, high_of}
use Rattle.memory.specs.declared.Stored.{Stored}
use Rattle.memory.specs.declared.Stored.TheVariants.{Done, Failed}
use Rattle.map.specs.declared.Place.{Place}
use Rattle.base.proofs.AddressLaws.{reached-at, reached-is}
use Rattle.map.specs.Places.{linear_word}
use Rattle.map.specs.declared.Map.{Map}
use Rattle.map.specs.declared.Place.TheVariants.{Linear}
use Rattle.map.proofs.Laws.{linear-second, linear-low, linear-high, linear-below}
use Rattle.memory.specs.Bytes.{Lent, place_in, read_byte, takes, store_byte}
use Rattle.memory.specs.Words.{joined, read_high, read_word, byte_stored, word_stored, store_both, store_word}
use Rattle.memory.proofs.Laws.{SameLengths, same-lengths, then-lengths, read-placed, store-lengths, takes-kept, refused-store, read-other, read-own}

-- a word of two linear bytes is read there
pub read-linear : (m : Map) (s : Lent) (a : ℕ) → linear_word m (length s.mem) a ≡ true
    → read_word m s a ≡ is (Some (word_of (get_or s.mem a 0) (get_or s.mem (a + 1) 0)))
unfolding read_word read_high joined
read-linear m s a e =
    let n = length s.mem in
    let k : a + 1 < n = linear-below m n a e in
    let low : read_byte m s a ≡ Some (get_or s.mem a 0, Linear a) = read-placed m s a (linear-low m n a e (length s.dev)) (omega arith) in
    let high : read_byte m s (a + 1) ≡ Some (get_or s.mem (a + 1) 0, Linear (a + 1)) = read-placed m s (a + 1) (linear-high m n a e (length s.dev)) k in
    rw (low, reached-at (a + 1) (linear-second m n a e), high)

-- what becomes of a word's store, and the bytes after it
pub record WordStore (m : Map) (s : Lent) (a w : ℕ) (r : Told Stored) (t : Lent) : Type 0 where
  pub outcome : word_stored m s a ≡ r
  pub bytes : store_word m s a w ≡ t

module _ (m : Map) (s : Lent) (a w : ℕ) where
  -- the low byte takes no store: nothing is stored
  pub low-fails : takes m s a ≡ false → WordStore m s a w (is Failed) s
  unfolding word_stored store_word
  low-fails h = record { outcome = rw h; bytes = rw h }

  module _ (h : takes m s a ≡ true) where
    -- past the last address: 3, and nothing is stored
    pub past_end : second_address a ≡ None → WordStore m s a w (no 3) s
    unfolding word_stored store_word store_both
    past_end e = record { outcome = rw (h, e); bytes = rw (h, e) }

    module _ (b : ℕ) (n : second_address a ≡ Some b) where
      -- the high byte takes no store: the low one stays
      pub high-fails : takes m s b ≡ false → WordStore m s a w (is Failed) (store_byte m s a (low_of w))
      unfolding word_stored byte_stored store_word store_both
      high-fails k = record {
        outcome = rw (h, n, k);
        bytes = rw (h, n) (refused-store m (store_byte m s a (low_of w)) b (high_of w) (takes-kept m s a (low_of w) b ∙ k));
      }

      -- low, then high
      pub both_stored : takes m s b ≡ true → WordStore m s a w (is Done) (store_byte m (store_byte m s a (low_of w)) b (high_of w))
      unfolding word_stored byte_stored store_word store_both
      both_stored k = record { outcome = rw (h, n, k); bytes = rw (h, n) }

both-lengths : (m : Map) (s : Lent) (a : ℕ) (second : Option ℕ) (w : ℕ) → SameLengths (store_both m s a second w) s
unfolding store_both
both-lengths m s a None w = same-lengths s
both-lengths m s a (Some b) w = then-lengths (store-lengths m (store_byte m s a (low_of w)) b (high_of w)) (store-lengths m s a (low_of w))

-- a word's store changes no length
pub word-lengths : (m : Map) (s : Lent) (a w : ℕ) → SameLengths (store_word m s a w) s
unfolding store_word
word-lengths m s a w = go (takes m s a)
  where
    go : (t : Bool) → SameLengths (cond t (store_both m s a (second_address a) w) s) s
    go true = both-lengths m s a (second_address a) w
    go false = same-lengths s

-- reading a word that was stored gives it
pub read-word-own : (m : Map) (s : Lent) (a b w : ℕ) → takes m s a ≡ true → second_address a ≡ Some b → takes m s b ≡ true → read_word m (store_word m s a w) a ≡ is (Some w)
unfolding read_word read_high joined
read-word-own m s a b w h n k =
    let s₁ = store_byte m s a (low_of w) in
    let s₂ = store_byte m s₁ b (high_of w) in
    let next : b ≡ a + 1 = reached-is (a + 1) b n in
    let e : store_word m s a w ≡ s₂ = (both_stored m s a w h b n k).bytes in
    let low : read_byte m s₂ a ≡ Some (low_of w, place_in m s a) = read-other m s₁ b (high_of w) a (λ q. omega arith) ∙ read-own m s a (low_of w) h in
    let high : read_byte m s₂ b ≡ Some (high_of w, place_in m s₁ b) = read-own m s₁ b (high_of w) (takes-kept m s a (low_of w) b ∙ k) in
    let sum : word_of (low_of w) (high_of w) ≡ w = omega arith in
    rw (e, low, n, high, sum)

-- ---- a word is refused with 3 alone

module _ (m : Map) (s : Lent) (a : ℕ) where
  pub read-numbered : Numbered 3 3 (read_word m s a)
  unfolding read_word read_high
  read-numbered = go (read_byte m s a) (second_address a)
    where
      go : (x : Option (ℕ × Place)) (r : Option ℕ) → Numbered 3 3 (read_high m s x r)
      go None r = tt
      go (Some (low, p)) (Some b) = tt
      go (Some (low, p)) None = (omega arith, omega arith)

  pub stored-numbered : Numbered 3 3 (word_stored m s a)
  unfolding word_stored
  stored-numbered = go (takes m s a) (second_address a)
    where
      go : (t : Bool) (r : Option ℕ) → Numbered 3 3 (cond t (address_or 3 r >>= λ b. is (byte_stored m s b)) (is Failed))
      go true (Some b) = tt
      go true None = (omega arith, omega arith)
      go false r = tt
