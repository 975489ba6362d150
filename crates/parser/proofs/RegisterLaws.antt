-- The register of a name is that of the first row with it, as the code finds it. Assumes nothing.
use Prim.Native.Nat.{ℕ}
use mathlib.Core.Path.{◌≡◌, refl}
use mathlib.Core.Bool.{Bool, true, false}
use mathlib.Core.List.{List, [], ◌∷◌, map}
use Rattle.std.specs.Prelude.{Some, ok_or}
use Rattle.std.specs.List.{find}
use Rattle.std.specs.Option.{option_map}
use Rattle.std.proofs.Common.{cond as std-cond}
use Rattle.base.specs.Bytes.{same}
use Rattle.base.specs.Choice.{cond}
use Rattle.base.specs.Names.{letters}
use Rattle.base.specs.declared.names.Name.{Name}
use Rattle.base.specs.Told.{is, told}
use Rattle.base.specs.declared.refusals.Refusal.TheVariants.{InvalidRegister}
use Rattle.instruction.specs.declared.Register.{Register}
use Rattle.mnemonics.specs.Tables.{row_of}
use Rattle.parser.specs.Operands.{register_in}

-- a row of the code's table, and whether the token is its name
abbrev pub Entry : Type 0
Entry = Name × Register

abbrev pub spelled : List ℕ → Entry → Bool
spelled token m = same token (letters m.0)

pub found : (token : List ℕ) (ms : List Entry) → told (ok_or (option_map (λ (m : Entry). m.1) (find (spelled token) ms)) InvalidRegister) ≡ register_in (map row_of ms) token
found token [] = refl
found token (m ∷ ms) = go (spelled token m) (found token ms)
  where
    go : (t : Bool) → told (ok_or (option_map (λ (m : Entry). m.1) (find (spelled token) ms)) InvalidRegister) ≡ register_in (map row_of ms) token →
        told (ok_or (option_map (λ (m : Entry). m.1) (std-cond t (Some m) (find (spelled token) ms))) InvalidRegister) ≡ cond t (is m.1) (register_in (map row_of ms) token)
    go true e = refl
    go false e = e
