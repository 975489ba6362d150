-- What a word decodes to fits, and is no register-mode CondJmp: each field that is taken is below 2 to its width, so that
-- every arm of the table says so of its own instruction; and a word is refused with 4, 5 or 6. Assumes nothing.
use Prim.Native.Nat.{ℕ, zero, suc, ◌+◌, ◌^◌}
use mathlib.Core.Path.{◌≡◌, refl, subst}
use mathlib.Core.Bool.{Bool, true, false, ◌&&◌}
use mathlib.Core.List.{List, [], ◌∷◌}
use lib.ListN.{get_or}
use lib.Dec.{ltb}
use native.Mathlib.Omega.{arith}
use borrow.Author.Tests.{lt-ltb}
use Rattle.base.specs.Choice.{cond}
use Rattle.base.specs.Told.{Told, is, no}
use Rattle.base.proofs.ToldLaws.{Numbered, or-numbered}
use Rattle.fields.specs.Fields.{field_of}
use Rattle.fields.proofs.Laws.{field_fits}
use Rattle.instruction.specs.declared.Operand.{Operand}
use Rattle.instruction.specs.declared.Operand.TheVariants.{Reg, Imm}
use Rattle.instruction.specs.declared.Instruction.{Instruction}
use Rattle.instruction.specs.Decode.{bit_at, register_at, operand_at, conditional, arms, arm, decode}
use Rattle.instruction.specs.Fits.{within, operand_fits, fits, decodable}

-- a test that holds of whatever is told
abbrev All : (Instruction → Bool) → Told Instruction → Type 0
All t (is i) = t i ≡ true
All t (no n) = Unit {0}

-- what holds of each entry of a list, entry after entry
data Every (P : Told Instruction → Type 0) : List (Told Instruction) → Type 0 where
  end : Every P []
  ◌then◌ : {x : Told Instruction} {xs : List (Told Instruction)} → P x → Every P xs → Every P (x ∷ xs)

infixr 20 ◌then◌
picked : (P : Told Instruction → Type 0) (xs : List (Told Instruction)) (k : ℕ) (d : Told Instruction) → P d → Every P xs → P (get_or xs k d)
picked P [] k d p h = p
picked P (x ∷ xs) zero d p (h then hs) = h
picked P (x ∷ xs) (suc k) d p (h then hs) = picked P xs k d p hs

unless : (t : Instruction → Bool) (b : Bool) (i : Instruction) (n : ℕ) → t i ≡ true → All t (cond b (is i) (no n))
unless t true i n h = h
unless t false i n h = tt

field-within : (w at width : ℕ) → within width (field_of w at width) ≡ true
field-within w at width = lt-ltb (field_of w at width) (2 ^ width) (field_fits w at width)

shift-within : (w : ℕ) → (within 3 (field_of w 7 3) && within 5 (field_of w 11 5)) ≡ true
shift-within w = rw (field-within w 7 3, field-within w 11 5)

pub operand-within : (w at width : ℕ) → operand_fits width (operand_at w at width) ≡ true
operand-within w at width = go (bit_at w at)
  where
    go : (b : Bool) → operand_fits width (cond b (Reg (register_at w (at + 1))) (Imm (field_of w (at + 1) width))) ≡ true
    go true = refl
    go false = field-within w (at + 1) width

conditional-fits : (o : Operand) → operand_fits 11 o ≡ true → fits (conditional o) ≡ true
conditional-fits (Reg r) h = refl
conditional-fits (Imm v) h = h

conditional-decodable : (o : Operand) → decodable (conditional o) ≡ true
conditional-decodable (Reg r) = refl
conditional-decodable (Imm v) = refl

all_fit : (w : ℕ) → Every (All fits) (arms w)
unfolding arms
all_fit w =
    refl
    then operand-within w 7 8
    then shift-within w
    then operand-within w 9 6
    then field-within w 11 5
    then conditional-fits (operand_at w 4 11) (operand-within w 4 11)
    then operand-within w 4 11
    then unless fits (ltb (field_of w 7 3) 6) _ 5 (operand-within w 10 5)
    then field-within w 11 5
    then refl
    then unless fits (ltb (field_of w 7 3) 7) _ 6 refl
    then field-within w 5 11
    then end

all-decodable : (w : ℕ) → Every (All decodable) (arms w)
unfolding arms
all-decodable w =
    refl
    then refl
    then refl
    then refl
    then refl
    then conditional-decodable (operand_at w 4 11)
    then refl
    then unless decodable (ltb (field_of w 7 3) 6) _ 5 refl
    then refl
    then refl
    then unless decodable (ltb (field_of w 7 3) 7) _ 6 refl
    then refl
    then end

pub decoded-fits : (w : ℕ) (i : Instruction) → decode w ≡ is i → fits i ≡ true
unfolding decode arm
decoded-fits w i e = subst (All fits) e (picked (All fits) (arms w) (field_of w 0 4) (no 4) tt (all_fit w))

pub decoded-decodable : (w : ℕ) (i : Instruction) → decode w ≡ is i → decodable i ≡ true
unfolding decode arm
decoded-decodable w i e = subst (All decodable) e (picked (All decodable) (arms w) (field_of w 0 4) (no 4) tt (all-decodable w))

all-numbered : (w : ℕ) → Every (Numbered 4 6) (arms w)
unfolding arms
all-numbered w =
    tt
    then tt
    then tt
    then tt
    then tt
    then tt
    then tt
    then or-numbered (ltb (field_of w 7 3) 6) _ 5 4 6 (omega arith, omega arith)
    then tt
    then tt
    then or-numbered (ltb (field_of w 7 3) 7) _ 6 4 6 (omega arith, omega arith)
    then tt
    then end

-- 4, 5 or 6
pub decode-numbered : (w : ℕ) → Numbered 4 6 (decode w)
unfolding decode arm
decode-numbered w = picked (Numbered 4 6) (arms w) (field_of w 0 4) (no 4) (omega arith, omega arith) (all-numbered w)
