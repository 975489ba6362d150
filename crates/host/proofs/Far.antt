-- The C entries hand on one range for every range past the last address, and one program for every one that is too long: the answers and
-- what is left are the same, and a count fits sixteen bits. Assumes nothing.
use Prim.Native.Nat.{ℕ, ◌+◌, ◌<◌, ◌≤◌}
use mathlib.Core.Path.{◌≡◌, refl, sym, ◌∙◌}
use mathlib.Core.Bool.{Bool, true, false, not, and-false}
use mathlib.Core.List.{List}
use lib.ListN.{length}
use native.Mathlib.Omega.{arith}
use lib.Dec.{eqb}
use Rattle.base.specs.Choice.{cond}
use Rattle.base.specs.Order.{first_of}
use Rattle.base.proofs.Tests.{clash}
use Rattle.map.specs.Entries as map
use Rattle.map.proofs.Orders.{region-far, device-far}
use Rattle.memory.specs.Bytes.{Lent}
use Rattle.memory.specs.Blocks.{numbered, read_order}
use Rattle.memory.proofs.Copies.{counting-most}
use Rattle.memory.proofs.Orders as memory-orders
use Rattle.memory.proofs.Orders.{read-near, counting-none, copying-none, long-begins}
use Rattle.journal.specs.States.{valid}
use Rattle.journal.specs.declared.State.{State}
use Rattle.host.specs.Host.{protect_number, protect_state, register_number, register_state, load_number, begins, load_state, load_bytes, read_number, read_out, read_out_buffer}
use Rattle.host.proofs.Laws.{protect-refused, register-refused, load-refused}

-- 1, and else n: no number after it is asked for
second-given : (n : ℕ) (t : Bool) → cond (not t) 1 n ≡ cond t n 1
second-given n true = refl
second-given n false = refl

-- which is a refusal
never : (t : Bool) (n : ℕ) → n ≡ cond t 12 1 → n ≡ 0 → ⊥
never true n e z = omega arith
never false n e z = omega arith

module _ (s : State) (dev journal : List ℕ) where
  -- ---- protect

  protect-12 : (start len : ℕ) → 65535 < start + len → protect_number s dev journal start len ≡ cond (valid s dev journal) 12 1
  unfolding protect_number
  protect-12 start len h = rw (region-far s.machine.map (map.region start len) h) (second-given 12 (valid s dev journal))

  protect-same : (start len : ℕ) → 65535 < start + len → protect_state s dev journal start len ≡ s
  protect-same start len h =
      protect-refused s dev journal start len (never (valid s dev journal) (protect_number s dev journal start len) (protect-12 start len h))

  pub protect-far : (start len start' len' : ℕ) → 65535 < start + len → 65535 < start' + len'
      → (protect_number s dev journal start len ≡ protect_number s dev journal start' len')
      × (protect_state s dev journal start len ≡ protect_state s dev journal start' len')
  protect-far start len start' len' h h' =
      (protect-12 start len h ∙ sym (protect-12 start' len' h'), protect-same start len h ∙ sym (protect-same start' len' h'))

  -- ---- device

  register-12 : (start size : ℕ) → 65535 < start + size → register_number s dev journal start size ≡ cond (valid s dev journal) 12 1
  unfolding register_number
  register-12 start size h =
      rw (device-far s.machine.map (length dev) (map.device start (start + size)) h) (second-given 12 (valid s dev journal))

  register-same : (start size : ℕ) → 65535 < start + size → register_state s dev journal start size ≡ s
  register-same start size h =
      register-refused s dev journal start size
      (never (valid s dev journal) (register_number s dev journal start size) (register-12 start size h))

  pub register-far : (start size start' size' : ℕ) → 65535 < start + size → 65535 < start' + size'
      → (register_number s dev journal start size ≡ register_number s dev journal start' size')
      × (register_state s dev journal start size ≡ register_state s dev journal start' size')
  register-far start size start' size' h h' =
      (register-12 start size h ∙ sym (register-12 start' size' h'), register-same start size h ∙ sym (register-same start' size' h'))

module _ (s : State) (b : Lent) (journal : List ℕ) where
  -- ---- reading memory out

  read-12 : (start size room : ℕ) → 65535 < start + size → read_number s b journal start size room ≡ cond (valid s b.dev journal) 12 1
  unfolding read_number
  read-12 start size room h = rw (memory-orders.read-far start size room h) (second-given 12 (valid s b.dev journal))

  -- which reads nothing
  read_none : (start size room : ℕ) → 65535 < start + size → read_out s b journal start size room ≡ numbered (cond (valid s b.dev journal) 12 1) 0
  unfolding read_out
  read_none start size room h =
      let t = valid s b.dev journal in
      rw (read-12 start size room h) (counting-none s.machine.map b start size (cond t 12 1) (never t (cond t 12 1) refl))

  copies-none : (start size : ℕ) (buffer : List ℕ) → 65535 < start + size → read_out_buffer s b journal start size buffer ≡ buffer
  unfolding read_out_buffer
  copies-none start size buffer h =
      let t = valid s b.dev journal in
      rw (read-12 start size (length buffer) h) (copying-none s.machine.map b start size (cond t 12 1) (never t (cond t 12 1) refl) buffer)

  module _ (start size start' size' : ℕ) (h : 65535 < start + size) (h' : 65535 < start' + size') where
    pub read-far : (room : ℕ) → read_out s b journal start size room ≡ read_out s b journal start' size' room
    read-far room = read_none start size room h ∙ sym (read_none start' size' room h')

    pub read-far-buffer : (buffer : List ℕ) → read_out_buffer s b journal start size buffer ≡ read_out_buffer s b journal start' size' buffer
    read-far-buffer buffer = copies-none start size buffer h ∙ sym (copies-none start' size' buffer h')

  pub read_count : (start size room : ℕ) → (read_out s b journal start size room).count ≤ 65535
  unfolding read_out read_number
  read_count start size room =
      counting-most s.machine.map b start size (read_number s b journal start size room) (λ a. near (valid s b.dev journal) a)
    where
      near : (t : Bool) → eqb (cond (not t) 1 (first_of (read_order start size room))) 0 ≡ true → start + size ≤ 65535
      near true a = read-near start size room a
      near false a = clash a

  -- ---- load

  load-16 : (program : List ℕ) → 32768 < length program → load_number s b journal program ≡ cond (valid s b.dev journal) 16 1
  unfolding load_number
  load-16 program h = rw (memory-orders.load-long s.machine.map b program h) (second-given 16 (valid s b.dev journal))

  load-none : (program : List ℕ) → 32768 < length program → begins s b journal program ≡ false
  unfolding begins
  load-none program h = rw (long-begins s.machine.map b program h) (and-false (valid s b.dev journal))

  pub load-long : (program program' : List ℕ) → 32768 < length program → 32768 < length program'
      → (load_number s b journal program ≡ load_number s b journal program')
      × (load_state s b journal program ≡ load_state s b journal program')
      × (load_bytes s b journal program ≡ load_bytes s b journal program')
  load-long program program' h h' =
      let k = load-refused s b journal program (load-none program h) in
      let k' = load-refused s b journal program' (load-none program' h') in
      (load-16 program h ∙ sym (load-16 program' h'), k.0 ∙ sym k'.0, k.1 ∙ sym k'.1)
