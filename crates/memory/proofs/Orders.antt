-- What the crates above may use of a load's and a reading's order: over a valid map the number is its order's, and a refusal leaves
-- the tables and copies nothing. Assumes nothing.
use Prim.Native.Nat.{ℕ, ◌+◌, ◌<◌, ◌≤◌}
use mathlib.Core.Path.{◌≡◌, refl}
use mathlib.Core.Bool.{true, false}
use mathlib.Core.List.{List}
use lib.Dec.{eqb}
use lib.ListN.{length}
use borrow.Author.Tests.{lt-ltb, lt-leb, ltb-false, ne_eqb}
use Rattle.base.specs.Choice.{cond}
use Rattle.base.specs.Order.{first_of}
use Rattle.base.proofs.OrderLaws.{passed}
use Rattle.map.specs.Valid.{valid}
use Rattle.map.specs.Entries.{region, with_region}
use Rattle.map.specs.declared.Map.{Map}
use Rattle.memory.specs.Bytes.{Lent}
use Rattle.memory.specs.Blocks.{numbered, read_order, counting, copying, read_number, read_out, read_out_buffer}
use Rattle.memory.specs.Program.{store_words, load_order, load_number, begins, load_bytes, load_map}

-- ---- load

module _ (m : Map) (s : Lent) (program : List ℕ) where
  pub load-order : valid m s.dev ≡ true → load_number m s program ≡ first_of (load_order m s program)
  unfolding load_number
  load-order v = rw v

  pub load-map : load_map m s program ≡ cond (eqb (load_number m s program) 0) (with_region m (region 0 (length program))) m
  unfolding load_map
  load-map = refl

  pub load-bytes : valid m s.dev ≡ true → load_bytes m s program ≡ cond (begins m program) (store_words m s 0 program).bytes s
  unfolding load_bytes
  load-bytes v = rw v

  -- too many words
  pub load-long : 32768 < length program → first_of (load_order m s program) ≡ 16
  unfolding load_order
  load-long h = rw (lt-ltb 32768 (length program) h)

  pub long-begins : 32768 < length program → begins m program ≡ false
  unfolding begins
  long-begins h = rw (lt-leb (length program) 32768 h)

-- ---- reading memory out

module _ (start size room : ℕ) where
  pub read-far : 65535 < start + size → first_of (read_order start size room) ≡ 12
  unfolding read_order
  read-far h = rw (lt-ltb 65535 (start + size) h)

  pub read-near : eqb (first_of (read_order start size room)) 0 ≡ true → start + size ≤ 65535
  unfolding read_order
  read-near a = ltb-false 65535 (start + size) (passed (read_order start size room) a).0

module _ (m : Map) (s : Lent) (start size : ℕ) where
  pub read-order : (room : ℕ) → valid m s.dev ≡ true → read_number m s start size room ≡ first_of (read_order start size room)
  unfolding read_number
  read-order room v = rw v

  pub read-counts : (room : ℕ) → read_out m s start size room ≡ counting m s start size (read_number m s start size room)
  unfolding read_out
  read-counts room = refl

  pub read-copies : (buffer : List ℕ) → read_out_buffer m s start size buffer ≡ copying m s start size (read_number m s start size (length buffer)) buffer
  unfolding read_out_buffer
  read-copies buffer = refl

  -- a refusal copies nothing
  module _ (n : ℕ) (h : n ≡ 0 → ⊥) where
    pub counting-none : counting m s start size n ≡ numbered n 0
    unfolding counting
    counting-none = rw (ne_eqb n 0 h)

    pub copying-none : (buffer : List ℕ) → copying m s start size n buffer ≡ buffer
    unfolding copying
    copying-none buffer = rw (ne_eqb n 0 h)
