-- A machine is valid where its tables are, setting a register leaves them, and its number is its order's. Assumes nothing.
use Prim.Native.Nat.{ℕ}
use mathlib.Core.Path.{◌≡◌, refl}
use mathlib.Core.Bool.{true}
use mathlib.Core.List.{List}
use lib.Dec.{eqb}
use Rattle.base.specs.Choice.{cond}
use Rattle.base.specs.Order.{first_of}
use Rattle.map.specs.Valid as tables
use Rattle.machine.specs.States.{valid, with_register, set_order, set_number, set_machine}
use Rattle.machine.specs.declared.Machine.{Machine}

module _ (m : Machine) (dev : List ℕ) where
  pub valid-tables : valid m dev ≡ tables.valid m.map dev
  unfolding valid
  valid-tables = refl

-- a register that is set leaves the tables
pub register-tables : (m : Machine) (number value : ℕ) → (with_register m number value).map ≡ m.map
unfolding with_register
register-tables m number value = refl

-- ---- setting a register: in a valid machine its number is its order's, and a refusal leaves the machine

module _ (m : Machine) (dev : List ℕ) (number : ℕ) where
  pub set-order : valid m dev ≡ true → set_number m dev number ≡ first_of (set_order number)
  unfolding set_number
  set-order v = rw v

  pub set-machine : (value : ℕ) → set_machine m dev number value ≡ cond (eqb (set_number m dev number) 0) (with_register m number value) m
  unfolding set_machine
  set-machine value = refl
