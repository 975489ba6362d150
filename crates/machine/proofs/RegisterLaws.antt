-- A register that was put is read back, and the others stay: the eight have eight places. Assumes nothing.
use mathlib.Core.Path.{◌≡◌, refl, sym, ap, ◌∙◌, subst⁻¹}
use Prim.Native.Nat.{ℕ, ◌<◌}
use native.Mathlib.Omega.{arith}
use mathlib.Core.List.{List}
use lib.ListN.{get_or, set, length, length-set}
use lib.Seq.{get_or-set_same, get_or-set_other, set-get_or, set-set, set_comm}
use Rattle.instruction.specs.Codes.{register_code, register_of}
use Rattle.instruction.specs.declared.Register.{Register}
use Rattle.instruction.specs.declared.Register.TheVariants.{M, PC}
use Rattle.instruction.proofs.CodeLaws.{register-lt, register-back}
use Rattle.machine.specs.Moves.{regs}
use Rattle.machine.specs.Registers.{get, put}
use Rattle.machine.specs.declared.Registers.{Registers}

pub get-own : (s : Registers) (r : Register) (v : ℕ) → length s.value ≡ 8 → get (put s r v) r ≡ v
unfolding get put
get-own s r v l = get_or-set_same s.value (register_code r) v 0 (subst⁻¹ (λ (n : ℕ). register_code r < n) l (register-lt r))

pub get_other : (s : Registers) (r q : Register) (v : ℕ) → (q ≡ r → ⊥) → get (put s r v) q ≡ get s q
unfolding get put
get_other s r q v n =
    get_or-set_other s.value (register_code r) (register_code q) v 0 (λ e. n (sym (register-back q) ∙ ap register_of e ∙ register-back r))

pub put-length : (s : Registers) (r : Register) (v : ℕ) → length (put s r v).value ≡ length s.value
unfolding put
put-length s r v = length-set s.value (register_code r) v

-- the same two, by the registers' numbers
pub get-same : (s : Registers) (d r : Register) (v : ℕ) → register_code d ≡ register_code r → length s.value ≡ 8 → get (put s d v) r ≡ v
unfolding get put
get-same s d r v e l =
    let f : get (put s d v) r ≡ get (put s d v) d = ap (λ (i : ℕ). get_or (set s.value (register_code d) v) i 0) (sym e) in
    f ∙ get-own s d v l

pub get-apart : (s : Registers) (d r : Register) (v : ℕ) → (register_code d ≡ register_code r → ⊥) → get (put s d v) r ≡ get s r
unfolding get put
get-apart s d r v n = get_or-set_other s.value (register_code d) (register_code r) v 0 (λ e. n (sym e))

-- what a register has is put into it
pub put-get : (s : Registers) (r : Register) → put s r (get s r) ≡ s
unfolding get put
put-get s r = ap regs (set-get_or s.value (register_code r) 0)

-- of two numbers put into one register the second stays
pub put-put : (s : Registers) (r : Register) (v w : ℕ) → put (put s r v) r w ≡ put s r w
unfolding put
put-put s r v w = ap regs (set-set s.value (register_code r) v w)

-- Call's two, in either order
pub put-apart : (s : Registers) (v w : ℕ) → put (put s M v) PC w ≡ put (put s PC w) M v
unfolding put
put-apart s v w = ap regs (set_comm s.value 3 5 v w (λ e. omega (arith, e)))

-- over the eight numbers, for a crate above that holds them so
pub get-as : (g : List ℕ) (r : Register) → get (regs g) r ≡ get_or g (register_code r) 0
unfolding get
get-as g r = refl
