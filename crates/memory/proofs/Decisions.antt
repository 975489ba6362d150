-- A store that is decided and then made is the store: by cases on which bytes are taken, as both definitions have them. Assumes nothing.
use mathlib.Core.Path.{◌≡◌, refl, sym, ap, ◌∙◌}
use mathlib.Core.Bool.{Bool, true, false}
use Prim.Native.Nat.{ℕ, ◌+◌}
use native.Mathlib.Omega.{arith}
use Rattle.std.specs.Prelude.{Option, Some, None}
use Rattle.base.specs.Addresses.{second_address}
use Rattle.base.specs.Choice.{cond}
use Rattle.base.specs.Told.{is}
use Rattle.base.specs.Words.{low_of, high_of}
use Rattle.base.proofs.AddressLaws.{reached-is}
use Rattle.base.proofs.ToldLaws.{Numbered}
use Rattle.map.specs.declared.Map.{Map}
use Rattle.map.specs.declared.Place.{Place}
use Rattle.memory.specs.Bytes.{Lent, get, put, target_in, read_byte, takes, store_byte}
use Rattle.memory.specs.Words.{byte_stored, word_stored, store_both, store_word, change_at, byte_decision, high_change, word_changes, word_decision, made}
use Rattle.memory.specs.declared.Change.{Change}
use Rattle.memory.specs.declared.Changes.{Changes}
use Rattle.memory.specs.declared.Changes.TheVariants.{Nothing, One, Two}
use Rattle.memory.proofs.ByteLaws.{put-mem, put-dev}
use Rattle.memory.proofs.WordLaws.{stored-numbered}
use Rattle.memory.proofs.Laws.{SameLengths, same-lengths, then-lengths, target-lengths, store-lengths, takes-kept, read-target, stored_at, refused-store}

pub nothing-made : (s : Lent) → made Nothing s ≡ s
unfolding made
nothing-made s = refl

-- storing at the target that was looked up in bytes of the same lengths
put-target : (m : Map) (s u : Lent) (a v : ℕ) → SameLengths u s → put (target_in m s a) u v ≡ store_byte m u a v
put-target m s u a v e = stored_at m u a v (target_in m s a) (sym (target-lengths m u s e a))

made_one : (m : Map) (s : Lent) (a v : ℕ) → made (One (change_at m s a v)) s ≡ store_byte m s a v
unfolding made change_at
made_one m s a v = put-target m s s a v (same-lengths s)

made-two : (m : Map) (s : Lent) (a v b x : ℕ) → made (Two (change_at m s a v) (change_at m s b x)) s ≡ store_byte m (store_byte m s a v) b x
unfolding made change_at
made-two m s a v b x = rw (put-target m s s a v (same-lengths s)) (put-target m s (store_byte m s a v) b x (store-lengths m s a v))

-- ---- the decision, once made

module _ (m : Map) (s : Lent) (a : ℕ) where
  pub byte-makes : (v : ℕ) → made (byte_decision m s a v).changes s ≡ store_byte m s a v
  unfolding byte_decision
  byte-makes v = go (takes m s a) refl
    where
      go : (t : Bool) → takes m s a ≡ t → made (cond t (One (change_at m s a v)) Nothing) s ≡ store_byte m s a v
      go true h = made_one m s a v
      go false h = nothing-made s ∙ sym (refused-store m s a v h)

  -- a high byte that takes no store changes nothing
  both-made : (r : Option ℕ) (w : ℕ) → made (word_changes m s a r w) s ≡ store_both m s a r w
  unfolding word_changes high_change store_both
  both-made None w = nothing-made s
  both-made (Some b) w = go (takes m s b) refl
    where
      go : (t : Bool) → takes m s b ≡ t
          → made (cond t (Two (change_at m s a (low_of w)) (change_at m s b (high_of w))) (One (change_at m s a (low_of w)))) s ≡ store_byte m (store_byte m s a (low_of w)) b (high_of w)
      go true h = made-two m s a (low_of w) b (high_of w)
      go false h = made_one m s a (low_of w) ∙ sym (refused-store m (store_byte m s a (low_of w)) b (high_of w) (takes-kept m s a (low_of w) b ∙ h))

  pub decision-makes : (w : ℕ) → made (word_decision m s a w).changes s ≡ store_word m s a w
  unfolding word_decision store_word
  decision-makes w = go (takes m s a)
    where
      go : (t : Bool) → made (cond t (word_changes m s a (second_address a) w) Nothing) s ≡ cond t (store_both m s a (second_address a) w) s
      go true = both-made (second_address a) w
      go false = nothing-made s

-- ---- what becomes of it: 01's sentence, and it is refused with 3 alone

module _ (m : Map) (s : Lent) (a : ℕ) where
  pub byte-outcome : (v : ℕ) → (byte_decision m s a v).outcome ≡ is (byte_stored m s a)
  unfolding byte_decision
  byte-outcome v = refl

  pub word-outcome : (w : ℕ) → (word_decision m s a w).outcome ≡ word_stored m s a
  unfolding word_decision
  word-outcome w = refl

  pub byte-numbered : (v : ℕ) → Numbered 3 3 (byte_decision m s a v).outcome
  unfolding byte_decision
  byte-numbered v = tt

  pub word-numbered : (w : ℕ) → Numbered 3 3 (word_decision m s a w).outcome
  unfolding word_decision
  word-numbered w = stored-numbered m s a

-- ---- each change stands at the place that a store to its address goes to, its address takes a store, and two have two addresses

pub record SoundChange (m : Map) (s : Lent) (x : Change) : Type 0 where
  pub place : x.place ≡ target_in m s x.address
  pub taken : takes m s x.address ≡ true

abbrev pub Sound : Map → Lent → Changes → Type 0
Sound m s Nothing = Unit {0}
Sound m s (One x) = SoundChange m s x
Sound m s (Two x y) = SoundChange m s x × SoundChange m s y × (y.address ≡ x.address → ⊥)

sound-change : (m : Map) (s : Lent) (a v : ℕ) → takes m s a ≡ true → SoundChange m s (change_at m s a v)
unfolding change_at
sound-change m s a v h = record { place = refl; taken = h }

-- the second address is another one
second-apart : (a b : ℕ) → second_address a ≡ Some b → b ≡ a → ⊥
second-apart a b n e = let k : b ≡ a + 1 = reached-is (a + 1) b n in omega arith

sound-two : (m : Map) (s : Lent) (a v b x : ℕ) → takes m s a ≡ true → takes m s b ≡ true → second_address a ≡ Some b → Sound m s (Two (change_at m s a v) (change_at m s b x))
unfolding change_at
sound-two m s a v b x h k n = (sound-change m s a v h, sound-change m s b x k, second-apart a b n)

module _ (m : Map) (s : Lent) (a : ℕ) where
  pub byte-sound : (v : ℕ) → Sound m s (byte_decision m s a v).changes
  unfolding byte_decision
  byte-sound v = go (takes m s a) refl
    where
      go : (t : Bool) → takes m s a ≡ t → Sound m s (cond t (One (change_at m s a v)) Nothing)
      go true h = sound-change m s a v h
      go false h = tt

  both-sound : (r : Option ℕ) (w : ℕ) → takes m s a ≡ true → second_address a ≡ r → Sound m s (word_changes m s a r w)
  unfolding word_changes high_change
  both-sound None w h n = tt
  both-sound (Some b) w h n = go (takes m s b) refl
    where
      go : (t : Bool) → takes m s b ≡ t → Sound m s (cond t (Two (change_at m s a (low_of w)) (change_at m s b (high_of w))) (One (change_at m s a (low_of w))))
      go true k = sound-two m s a (low_of w) b (high_of w) h k n
      go false k = sound-change m s a (low_of w) h

  pub decision-sound : (w : ℕ) → Sound m s (word_decision m s a w).changes
  unfolding word_decision
  decision-sound w = go (takes m s a) refl
    where
      go : (t : Bool) → takes m s a ≡ t → Sound m s (cond t (word_changes m s a (second_address a) w) Nothing)
      go true h = both-sound (second_address a) w h refl
      go false h = tt

-- ---- what is made of sound changes: stores at their addresses, over bytes that can be read there

module _ (m : Map) (s : Lent) where
  -- the byte that a change replaces is the one at its address
  pub old-byte : (x : Change) → SoundChange m s x → get x.place s ≡ read_byte m s x.address
  old-byte x h = read-target m s x.address x.byte x.place h.place h.taken

  pub one-stored : (x : Change) → SoundChange m s x → made (One x) s ≡ store_byte m s x.address x.byte
  unfolding made
  one-stored x h = stored_at m s x.address x.byte x.place h.place

  pub two-stored : (x y : Change) → SoundChange m s x → SoundChange m s y
      → made (Two x y) s ≡ store_byte m (store_byte m s x.address x.byte) y.address y.byte
  unfolding made
  two-stored x y h k =
      let u = store_byte m s x.address x.byte in
      ap (λ (t : Lent). put y.place t y.byte) (one-stored x h)
      ∙ stored_at m u y.address y.byte y.place (k.place ∙ sym (target-lengths m u s (store-lengths m s x.address x.byte) y.address))

-- ---- whatever is made

put-lengths : (p : Place) (s : Lent) (v : ℕ) → SameLengths (put p s v) s
put-lengths p s v = record { mem = put-mem p s v; dev = put-dev p s v }

-- it changes no length
pub made-lengths : (c : Changes) (s : Lent) → SameLengths (made c s) s
unfolding made
made-lengths Nothing s = same-lengths s
made-lengths (One x) s = put-lengths x.place s x.byte
made-lengths (Two x y) s =
    then-lengths (put-lengths y.place (put x.place s x.byte) y.byte) (put-lengths x.place s x.byte)
