-- In a state that is valid as a whole, what the crate below answers is what the host's entry does: its tables are valid too, so
-- that the two orders of refusals are one. Assumes nothing.
use Prim.Native.Nat.{ℕ, ◌+◌}
use mathlib.Core.Path.{◌≡◌, refl, sym, ap, ◌∙◌}
use mathlib.Core.Bool.{true, false}
use mathlib.Core.List.{List}
use lib.ListN.{length}
use borrow.Author.Tests.{ne_eqb}
use Rattle.base.specs.Numbers.{number_of}
use Rattle.base.specs.declared.refusals.Refusal.{Refusal}
use Rattle.base.proofs.Tests.{clash}
use Rattle.map.specs.Entries as map
use Rattle.map.specs.Valid as tables
use Rattle.map.specs.declared.Map.{Map}
use Rattle.memory.specs.Bytes.{Lent}
use Rattle.memory.specs.Blocks as blocks
use Rattle.memory.specs.Program as memory
use Rattle.map.proofs.Orders as orders
use Rattle.memory.proofs.Orders as loads
use Rattle.memory.proofs.ProgramLaws.{begins-by-number}
use Rattle.machine.specs.States as machine
use Rattle.machine.specs.declared.Machine.{Machine}
use Rattle.machine.proofs.StateLaws.{valid-tables, set-order, set-machine}
use Rattle.journal.specs.States.{state, valid}
use Rattle.journal.specs.declared.State.{State}
use Rattle.journal.proofs.StateLaws.{valid-machine}
use Rattle.host.proofs.AnswerLaws.{settled_ok, settled_err}
use Rattle.host.specs.Host.{with_map, set_number, set_state, protect_number, protect_state, register_number, register_state, load_number, begins, load_map, load_bytes, read_number, read_out, read_out_buffer, past}

-- a load that did not begin is refused
not_0 : (n : ℕ) → past n ≡ false → n ≡ 0 → ⊥
unfolding past
not_0 n p z = clash (sym (rw z at p))

module _ (s : State) (dev journal : List ℕ) (v : valid s dev journal ≡ true) where
  abbrev m : Map
  m = s.machine.map

  pub tables-valid : tables.valid m dev ≡ true
  tables-valid = sym (valid-tables s.machine dev) ∙ valid-machine s dev journal v

  -- ---- set-register

  pub set-number : (number : ℕ) → machine.set_number s.machine dev number ≡ set_number s dev journal number
  unfolding set_number
  set-number number = set-order s.machine dev number (valid-machine s dev journal v) ∙ rw v

  -- the machine below, as set-register leaves it
  module _ (number value : ℕ) (m : Machine) (e : m ≡ machine.set_machine s.machine dev number value) where
    pub set-ok : 0 ≡ machine.set_number s.machine dev number → state m 0 0 ≡ set_state s dev journal number value
    unfolding set_state
    set-ok =
        settled_ok s (λ (x : Machine). x) (machine.with_register s.machine number value) s.machine (machine.set_number s.machine dev number)
        (set_number s dev journal number) (set-number number) m (e ∙ set-machine s.machine dev number value)

    pub set-err : (r : Refusal) → number_of r ≡ machine.set_number s.machine dev number → state m s.next s.held ≡ set_state s dev journal number value
    unfolding set_state
    set-err =
        settled_err s (λ (x : Machine). x) (machine.with_register s.machine number value) s.machine (machine.set_number s.machine dev number)
        (set_number s dev journal number) (set-number number) m (e ∙ set-machine s.machine dev number value) refl

  -- ---- protect

  module _ (start len : ℕ) where
    pub protect-number : map.protect_number m dev start len ≡ protect_number s dev journal start len
    unfolding protect_number
    protect-number = orders.protect-order m dev start len tables-valid ∙ rw v

    -- the tables below, as protect leaves them
    module _ (t : Map) (e : t ≡ map.protect_map m dev start len) where
      pub protect-ok : 0 ≡ map.protect_number m dev start len → state (with_map s.machine t) 0 0 ≡ protect_state s dev journal start len
      unfolding protect_state
      protect-ok =
          settled_ok s (with_map s.machine) (map.with_region m (map.region start len)) m (map.protect_number m dev start len) (protect_number s dev journal start len)
          protect-number (with_map s.machine t) (ap (with_map s.machine) (e ∙ orders.protect-map m dev start len))

      pub protect-err : (r : Refusal) → number_of r ≡ map.protect_number m dev start len
          → state (with_map s.machine t) s.next s.held ≡ protect_state s dev journal start len
      unfolding protect_state
      protect-err =
          settled_err s (with_map s.machine) (map.with_region m (map.region start len)) m (map.protect_number m dev start len) (protect_number s dev journal start len)
          protect-number (with_map s.machine t) (ap (with_map s.machine) (e ∙ orders.protect-map m dev start len)) refl

  -- ---- device

  module _ (start size : ℕ) where
    pub register-number : map.register_number m dev start size ≡ register_number s dev journal start size
    unfolding register_number
    register-number = orders.register-order m dev start size tables-valid ∙ rw v

    -- the tables below, as a new device leaves them
    module _ (t : Map) (e : t ≡ map.register_map m dev start size) where
      pub register-ok : 0 ≡ map.register_number m dev start size → state (with_map s.machine t) 0 0 ≡ register_state s dev journal start size
      unfolding register_state
      register-ok =
          settled_ok s (with_map s.machine) (map.with_device m (map.device start (start + size))) m (map.register_number m dev start size) (register_number s dev journal start size)
          register-number (with_map s.machine t) (ap (with_map s.machine) (e ∙ orders.register-map m dev start size))

      pub register-err : (r : Refusal) → number_of r ≡ map.register_number m dev start size
          → state (with_map s.machine t) s.next s.held ≡ register_state s dev journal start size
      unfolding register_state
      register-err =
          settled_err s (with_map s.machine) (map.with_device m (map.device start (start + size))) m (map.register_number m dev start size) (register_number s dev journal start size)
          register-number (with_map s.machine t) (ap (with_map s.machine) (e ∙ orders.register-map m dev start size)) refl

module _ (s : State) (b : Lent) (journal : List ℕ) (v : valid s b.dev journal ≡ true) where
  -- ---- load

  module _ (program : List ℕ) where
    pub load-number : memory.load_number s.machine.map b program ≡ load_number s b journal program
    unfolding load_number
    load-number = loads.load-order s.machine.map b program (tables-valid s b.dev journal v) ∙ rw v

    pub load-map : memory.load_map s.machine.map b program ≡ load_map s b journal program
    unfolding load_map
    load-map = loads.load-map s.machine.map b program ∙ rw load-number

    pub load-bytes : memory.load_bytes s.machine.map b program ≡ load_bytes s b journal program
    unfolding load_bytes begins
    load-bytes = loads.load-bytes s.machine.map b program (tables-valid s b.dev journal v) ∙ rw v

    -- it begins where its answer is past 16 and 14
    pub begins-past : begins s b journal program ≡ past (memory.load_number s.machine.map b program)
    unfolding begins past
    begins-past = rw v (begins-by-number s.machine.map b program (tables-valid s b.dev journal v))

    -- it leaves the tables where it does not begin
    pub load-kept : past (memory.load_number s.machine.map b program) ≡ false → memory.load_map s.machine.map b program ≡ s.machine.map
    load-kept p = loads.load-map s.machine.map b program ∙ rw (ne_eqb (memory.load_number s.machine.map b program) 0 (not_0 (memory.load_number s.machine.map b program) p))

  -- ---- reading memory out

  module _ (start size : ℕ) where
    read-number : (room : ℕ) → blocks.read_number s.machine.map b start size room ≡ read_number s b journal start size room
    unfolding read_number
    read-number room = loads.read-order s.machine.map b start size room (tables-valid s b.dev journal v) ∙ rw v

    pub read-out : (room : ℕ) → blocks.read_out s.machine.map b start size room ≡ read_out s b journal start size room
    unfolding read_out
    read-out room = loads.read-counts s.machine.map b start size room ∙ rw (read-number room)

    pub read-buffer : (buffer : List ℕ) → blocks.read_out_buffer s.machine.map b start size buffer ≡ read_out_buffer s b journal start size buffer
    unfolding read_out_buffer
    read-buffer buffer = loads.read-copies s.machine.map b start size buffer ∙ rw (read-number (length buffer))
