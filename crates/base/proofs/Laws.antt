-- Two refusals with one number are one, since the number finds its refusal again in a table; so are two verdicts. So a contract that fixes the number fixes the answer. Assumes nothing.
use mathlib.Core.Path.{◌≡◌, refl, sym, ap, ◌∙◌}
use mathlib.Core.List.{List, [], ◌∷◌}
use Prim.Native.Nat.{ℕ, pred}
use native.Mathlib.Omega.{arith}
use lib.ListN.{get_or}
use Rattle.std.specs.Prelude.{Result, Ok, Err, ⊤}
use Rattle.base.specs.Numbers.{number_of, answer_number}
use Rattle.base.specs.declared.refusals.Refusal.{Refusal}
use Rattle.base.specs.declared.refusals.Refusal.TheVariants.{BadState, FetchUnmapped, AddressOverflow, BadOpcode, BadCompare, BadArith, ArithOverflow, DivideByZero, PcOverflow, NothingToUndo, BadJournal, RangeOverflow, Overlap, TableFull, WriteFailed, TooLong, NoDeviceRoom, BadRegister, NoRoom, InvalidRegister, InvalidOperands, InvalidInstruction, InvalidFormat, InvalidImmediate, UnresolvedLabel, NotAscii, TooManyLabels, TooManyFixups, ProgramFull, FieldTooWide, BadBlock, NotDecodable, NoText}

-- the refusals from 1 on
refusals : List Refusal
refusals =
    BadState ∷ FetchUnmapped ∷ AddressOverflow ∷ BadOpcode ∷ BadCompare ∷ BadArith ∷
    ArithOverflow ∷ DivideByZero ∷ PcOverflow ∷ NothingToUndo ∷ BadJournal ∷ RangeOverflow ∷
    Overlap ∷ TableFull ∷ WriteFailed ∷ TooLong ∷ NoDeviceRoom ∷ BadRegister ∷
    NoRoom ∷ InvalidRegister ∷ InvalidOperands ∷ InvalidInstruction ∷ InvalidFormat ∷ InvalidImmediate ∷
    UnresolvedLabel ∷ NotAscii ∷ TooManyLabels ∷ TooManyFixups ∷ ProgramFull ∷ FieldTooWide ∷
    BadBlock ∷ NotDecodable ∷ NoText ∷ []

found : (r : Refusal) → get_or refusals (pred (number_of r)) BadState ≡ r
unfolding refusals
found BadState = refl
found FetchUnmapped = refl
found AddressOverflow = refl
found BadOpcode = refl
found BadCompare = refl
found BadArith = refl
found ArithOverflow = refl
found DivideByZero = refl
found PcOverflow = refl
found NothingToUndo = refl
found BadJournal = refl
found RangeOverflow = refl
found Overlap = refl
found TableFull = refl
found WriteFailed = refl
found TooLong = refl
found NoDeviceRoom = refl
found BadRegister = refl
found NoRoom = refl
found InvalidRegister = refl
found InvalidOperands = refl
found InvalidInstruction = refl
found InvalidFormat = refl
found InvalidImmediate = refl
found UnresolvedLabel = refl
found NotAscii = refl
found TooManyLabels = refl
found TooManyFixups = refl
found ProgramFull = refl
found FieldTooWide = refl
found BadBlock = refl
found NotDecodable = refl
found NoText = refl

pub number-one : (r q : Refusal) → number_of r ≡ number_of q → r ≡ q
number-one r q e = sym (found r) ∙ ap (λ (n : ℕ). get_or refusals (pred n) BadState) e ∙ found q

-- a refusal's number is not that of what is accepted
pub not_accepted : {B : Type 0} (r : Refusal) → 0 ≡ number_of r → B
unfolding refusals
not_accepted r e =
    let h : BadState ≡ r = ap (λ (n : ℕ). get_or refusals (pred n) BadState) e ∙ found r in
    absurd (let z : 0 ≡ 1 = e ∙ sym (ap number_of h) in omega (arith, z))

pub answer-one : (a b : Result ⊤ Refusal) → answer_number a ≡ answer_number b → a ≡ b
answer-one (Ok a) (Ok b) e = refl
answer-one (Ok a) (Err q) e = not_accepted q e
answer-one (Err r) (Ok b) e = not_accepted r (sym e)
answer-one (Err r) (Err q) e = ap Err (number-one r q e)
