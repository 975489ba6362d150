-- A machine's state: valid if its tables are; a new one; setting a register.
use Rattle.std.specs.Prelude.{ℕ, Bool, not, List, [], ◌∷◌, ltb, eqb, set, replicate}
use Rattle.base.specs.Choice.{cond}
use Rattle.base.specs.Order.{Refusing, ◌when◌, first_of}
use Rattle.map.specs.Entries.{empty_map}
use Rattle.map.specs.Valid as tables
use Rattle.map.specs.declared.Map.{Map}
use Rattle.machine.specs.declared.Machine.{Machine}
use Rattle.machine.specs.declared.Mode.{Mode}
use Rattle.machine.specs.declared.Registers.{Registers}

-- the machine with these parts
abbrev pub machine : Registers → Mode → Map → Machine
machine s mode map = record { registers = s; mode = mode; map = map }

-- of a machine and the bytes of its device buffer
unfoldable pub valid : Machine → List ℕ → Bool
valid m dev = tables.valid m.map dev

-- the machine with other registers
abbrev pub with : Machine → Registers → Machine
with m s = record { registers = s; mode = m.mode; map = m.map }

-- registers are zero, tables empty
abbrev pub fresh : Bool → Machine
fresh debug = record { registers = record { value = replicate 8 0 }; mode = record { debug = debug }; map = empty_map }

-- a register has a number's value
unfoldable pub with_register : Machine → ℕ → ℕ → Machine
with_register m number value = with m (record { value = set m.registers.value number value })

-- set-register: 18
unfoldable pub set_order : ℕ → List Refusing
set_order number = 18 when ltb 7 number ∷ []

-- 1 first
unfoldable pub set_number : Machine → List ℕ → ℕ → ℕ
set_number m dev number = first_of (1 when not (valid m dev) ∷ set_order number)

unfoldable pub set_machine : Machine → List ℕ → ℕ → ℕ → Machine
set_machine m dev number value = cond (eqb (set_number m dev number) 0) (with_register m number value) m
