-- A load and a read-out as C sees them: 31, or what the host's entry does with the block's state. Assumes nothing.
use Prim.Native.Nat.{ℕ, ◌+◌, ◌/◌, ◌≤◌, ◌<◌}
use mathlib.Core.Path.{◌≡◌, ap, ◌∙◌}
use mathlib.Core.Bool.{true, false}
use mathlib.Core.List.{List, ◌++◌}
use lib.Dec.{ltb}
use lib.ListN.{length, take, drop}
use native.Mathlib.Omega.{arith}
use Rattle.base.specs.Choice.{cond}
use Rattle.wordbytes.specs.Words.{words_from, words_in, even}
use Rattle.wordbytes.proofs.Laws.{length-words, words-in, read_all}
use Rattle.memory.specs.Bytes.{Lent}
use Rattle.memory.specs.Blocks.{Counted}
use Rattle.journal.specs.declared.State.{State}
use Rattle.host.specs.Host.{read_out, read_out_buffer, load_number, load_state, load_bytes}
use Rattle.block.specs.Block.{is_block, packed, unpacked}
use Rattle.numbers.specs.Answers.{counted_number}
use Rattle.seamkettle.specs.Calls.{Seen, seen, loading, number_in, read_number, read_buffer}
use Rattle.host.proofs.Far.{read-far, read-far-buffer, read_count, load-long}
use Rattle.numbers.proofs.RangeLaws.{narrowed}

-- ---- the words of a load

-- more words than a load takes are as good as others
module _ (s : State) (b : Lent) (j bytes program : List ℕ) where
  pub load_many : 32769 < length bytes / 2 → length program ≡ 32769
      → (load_number s b j program ≡ load_number s b j (words_in bytes))
      × (load_state s b j program ≡ load_state s b j (words_in bytes))
      × (load_bytes s b j program ≡ load_bytes s b j (words_in bytes))
  load_many h e =
      let n : length (words_in bytes) ≡ length bytes / 2 = ap length (words-in bytes) ∙ length-words (length bytes / 2) bytes in
      load-long s b j program (words_in bytes) (omega arith) (omega arith)

module _ (s : State) (b : Lent) (j bytes program : List ℕ) (h : length bytes / 2 ≤ length program)
    (last : List ℕ) (q : last ≡ words_from (length (take (length bytes / 2) program)) bytes) where
  abbrev loaded-part : List ℕ
  loaded-part = take (length bytes / 2) (last ++ drop (length bytes / 2) program)

  pub load_read : (load_number s b j loaded-part ≡ load_number s b j (words_in bytes))
      × (load_state s b j loaded-part ≡ load_state s b j (words_in bytes))
      × (load_bytes s b j loaded-part ≡ load_bytes s b j (words_in bytes))
  load_read =
      let r = read_all bytes program h last q in
      (ap (load_number s b j) r, ap (load_state s b j) r, ap (load_bytes s b j) r)

-- ---- a load

-- the same with another number
pub unnumbered : {n : ℕ} {block : List ℕ} {b : Lent} {j : List ℕ} {t : Seen} → n ≡ 31 → seen 31 block b j ≡ t → seen n block b j ≡ t
unnumbered {n} {block} {b} {j} {t} e q = ap (λ (k : ℕ). seen k block b j) e ∙ q

module _ (words block : List ℕ) (b : Lent) (j : List ℕ) where
  pub load-bad : is_block block ≡ false → seen 31 block b j ≡ loading words block b j
  unfolding loading
  load-bad e = rw e

  pub load-odd : is_block block ≡ true → even words ≡ false → seen 31 block b j ≡ loading words block b j
  unfolding loading
  load-odd e f = rw (e, f)

  pub load-good : is_block block ≡ true → even words ≡ true → (s t : State) (n : ℕ) (c : List ℕ) (m : Lent) → s ≡ unpacked block
      → n ≡ load_number s b j (words_in words) → t ≡ load_state s b j (words_in words) → c ≡ packed t
      → m ≡ load_bytes s b j (words_in words) → seen n c m j ≡ loading words block b j
  unfolding loading
  load-good e f s t n c m u x y z w = rw (e, f, w, z, y, x, u)

-- ---- a read-out

module _ (s : State) (b : Lent) (j : List ℕ) (start size a n : ℕ) (p : a ≡ cond (ltb 65535 (start + size)) 65535 start)
    (q : n ≡ cond (ltb 65535 (start + size)) 65535 size) where
  -- a range that ends past 65,535 is as good as another
  narrow-read : (room : ℕ) → read_out s b j a n room ≡ read_out s b j start size room
  narrow-read room =
      narrowed start size p q (λ (x y : ℕ). read_out s b j x y room) (λ h. read-far s b j 65535 65535 start size (omega arith) h room)

  narrow-buffer : (buffer : List ℕ) → read_out_buffer s b j a n buffer ≡ read_out_buffer s b j start size buffer
  narrow-buffer buffer =
      narrowed start size p q (λ (x y : ℕ). read_out_buffer s b j x y buffer)
      (λ h. read-far-buffer s b j 65535 65535 start size (omega arith) h buffer)

  pub read_fits : (room : ℕ) (k : Counted) → k ≡ read_out s b j a n room → k.count ≤ 281474976710655
  read_fits room k e =
      let f : k.count ≡ (read_out s b j a n room).count = ap (λ (o : Counted). o.count) e in
      omega (arith, read_count s b j a n room)

  pub read-good : (block : List ℕ) → is_block block ≡ true → s ≡ unpacked block → (room : ℕ) (k : Counted) → k ≡ read_out s b j a n room
      → counted_number k ≡ read_number block b j start size room
  unfolding read_number number_in
  read-good block e u room k f = rw (e, ← u) (ap counted_number (f ∙ narrow-read room))

  pub buffer-good : (block : List ℕ) → is_block block ≡ true → s ≡ unpacked block → (buffer after : List ℕ)
      → after ≡ read_out_buffer s b j a n buffer → after ≡ read_buffer block b j start size buffer
  unfolding read_buffer
  buffer-good block e u buffer after f = rw (e, ← u) (f ∙ narrow-buffer buffer)

module _ (block : List ℕ) (b : Lent) (j : List ℕ) (start size : ℕ) (e : is_block block ≡ false) where
  pub read-bad : (room : ℕ) → 31 ≡ read_number block b j start size room
  unfolding read_number number_in
  read-bad room = rw e

  pub buffer-bad : (buffer : List ℕ) → buffer ≡ read_buffer block b j start size buffer
  unfolding read_buffer
  buffer-bad buffer = rw e
