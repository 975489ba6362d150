-- A label's name is a plain token, and no `#` or register's name, so a line that refers to it is parsed as that reference; and an instruction
-- with an aim is the one that the reference is once its label's address is known. Assumes nothing.
use Prim.Native.Nat.{ℕ, ◌+◌, ◌/◌, ◌%◌, ◌<◌}
use mathlib.Core.Path.{◌≡◌, refl, subst}
use mathlib.Core.Bool.{Bool, true, false}
use mathlib.Core.List.{[], ◌∷◌}
use native.Mathlib.Omega.{arith}
use borrow.Author.Tests.{le-leb, lt-leb, ltb-true, ltb-false}
use lib.Dec.{ltb}
use Rattle.std.specs.Prelude.{Option, Some, None}
use Rattle.base.specs.Choice.{cond}
use Rattle.base.specs.Told.{is}
use Rattle.instruction.specs.declared.Operand.TheVariants.{Reg, Imm}
use Rattle.instruction.specs.declared.Instruction.{Instruction}
use Rattle.instruction.specs.declared.Instruction.TheVariants.{Noop, Mov, MovShift, Arith, ArithRegReg, LdrStr, LdbStb, Cpy, Jmp, CondJmp, Cmp, CallRet}
use Rattle.text.proofs.JoinedLaws.{joined, is_plain, every, Plains}
use Rattle.pen.specs.Numbers.{hex_digit, hex}
use Rattle.parser.specs.declared.Reference.{Reference}
use Rattle.parser.specs.declared.Reference.TheVariants as reference
use Rattle.parser.specs.Answers.{refers}
use Rattle.parser.specs.Operands.{register_names, register}
use Rattle.parser.specs.Parse.{parse, takes, meaning, target, callee}
use Rattle.parser.specs.References.{resolved}
use Rattle.source.specs.declared.aims.Aim.{Aim}
use Rattle.source.specs.Source.{label_name, to, aim_of, reference_name, refer_line}
use Rattle.source.proofs.Names.{named}

-- ---- a label's name

hex-plain : (d : ℕ) → d < 16 → is_plain (hex_digit d) ≡ true
unfolding is_plain
hex-plain d h = go (ltb d 10) refl
  where
    go : (t : Bool) → ltb d 10 ≡ t → is_plain (cond t (48 + d) (55 + d)) ≡ true
    go true e = let l = ltb-true d 10 e in rw (le-leb 33 (48 + d) (omega arith), le-leb (48 + d) 57 (omega arith))
    go false e =
        let l = ltb-false d 10 e in
        rw (le-leb 33 (55 + d) (omega arith), lt-leb (55 + d) 57 (omega arith), le-leb 65 (55 + d) (omega arith), le-leb (55 + d) 93 (omega arith))

letter : is_plain 76 ≡ true
unfolding is_plain
letter = refl

pub name-plain : (a : ℕ) → every is_plain (label_name a) ≡ true
unfolding label_name hex
name-plain a =
    rw (letter, hex-plain (a / 4096 % 16) (omega arith), hex-plain (a / 256 % 16) (omega arith), hex-plain (a / 16 % 16) (omega arith), hex-plain (a % 16) (omega arith))

-- ---- a line that refers to it

pub refer-joined : (r : Reference) (a : ℕ) → refer_line r a ≡ joined (reference_name r ∷ label_name a ∷ [])
unfolding refer_line
refer-joined reference.Jmp a = refl
refer-joined reference.CondJmp a = refl
refer-joined reference.Call a = refl

pub refer-plain : (r : Reference) (a : ℕ) → Plains (reference_name r ∷ label_name a ∷ [])
unfolding label_name is_plain
refer-plain reference.Jmp a = (refl, (name-plain a, tt))
refer-plain reference.CondJmp a = (refl, (name-plain a, tt))
refer-plain reference.Call a = (refl, (name-plain a, tt))

pub refer-parse : (r : Reference) (a : ℕ) → parse (reference_name r ∷ label_name a ∷ []) ≡ is (refers r (label_name a))
unfolding parse takes meaning target callee register register_names label_name hex
refer-parse reference.Jmp a = rw (named (Jmp (Imm a))).0
refer-parse reference.CondJmp a = rw (named (CondJmp (Imm a))).0
refer-parse reference.Call a = rw (named (CallRet false a)).0

-- ---- and the instruction that it is

abbrev Resolves : Option Aim → Instruction → Type 0
Resolves None i = Unit {0}
Resolves (Some x) i = resolved x.reference x.address ≡ i

resolves : (i : Instruction) → Resolves (aim_of i) i
resolves Noop = tt
resolves (Mov d o) = tt
resolves (MovShift r amount left imm) = tt
resolves (Arith d o op) = tt
resolves (ArithRegReg d a b op) = tt
resolves (LdrStr r a store shift) = tt
resolves (LdbStb r a store shift) = tt
resolves (Cpy a b) = tt
resolves (Jmp (Reg r)) = tt
resolves (Jmp (Imm a)) = refl
resolves (CondJmp (Reg r)) = tt
resolves (CondJmp (Imm a)) = refl
resolves (Cmp r o op) = tt
resolves (CallRet true a) = tt
resolves (CallRet false a) = refl

pub aim-resolved : (i : Instruction) (r : Reference) (a : ℕ) → aim_of i ≡ to r a → resolved r a ≡ i
aim-resolved i r a e = subst (λ (x : Option Aim). Resolves x i) e (resolves i)
