-- The second edition decodes every instruction whose fields fit back from its word. What is decodable comes back by the first
-- edition's round trip: where the low four bits are 5, that was the CondJmp which the second edition says too. The one form that is
-- not decodable is a CondJmp, which it says. And what a word decodes to fits. Assumes nothing.
use Prim.Native.Nat.{ℕ, ◌%◌, ◌*◌, ◌+◌}
use mathlib.Core.Path.{◌≡◌, refl, sym, ap, subst, ◌∙◌}
use mathlib.Core.Bool.{Bool, true, false}
use native.Mathlib.Omega.{arith}
use lib.Dec.{eqb}
use borrow.Author.Tests.{eq-eqb, eqb-true}
use Rattle.base.specs.Choice.{cond}
use Rattle.base.specs.Told.{is}
use Rattle.base.proofs.ToldLaws.{is_one}
use Rattle.fields.specs.Fields.{field_of}
use Rattle.fields.proofs.Laws.{unpacked}
use Rattle.instruction.specs.declared.Edition.TheVariants.{Second}
use Rattle.instruction.specs.declared.Operand.{Operand}
use Rattle.instruction.specs.declared.Operand.TheVariants.{Reg, Imm}
use Rattle.instruction.specs.declared.Instruction.{Instruction}
use Rattle.instruction.specs.declared.Instruction.TheVariants.{Jmp, CondJmp}
use Rattle.instruction.specs.Decode.{operand_at, conditional, arm, arms, decode}
use Rattle.instruction.specs.Encode.{mode, value, encode}
use Rattle.instruction.specs.Fits.{operand_fits, fits, decodable}
use Rattle.instruction.specs.Editions.{decode_in}
use Rattle.instruction.proofs.RoundTrip.{operand-back, low_bits, round_trip, register-cjp-only}
use Rattle.instruction.proofs.DecodedLaws.{operand-within, decoded-fits}

-- the low four bits of a jump
jump-bits : (o : Operand) → field_of (encode (Jmp o)) 0 4 ≡ 6
jump-bits o = unpacked (encode (Jmp o)) 0 4 0 6 (mode o % 2 + value o % 2048 * 2) (omega arith) (omega arith) (omega arith)

cond-bits : (o : Operand) → field_of (encode (CondJmp o)) 0 4 ≡ 5
cond-bits o = unpacked (encode (CondJmp o)) 0 4 0 5 (mode o % 2 + value o % 2048 * 2) (omega arith) (omega arith) (omega arith)

cond_back : (o : Operand) → operand_fits 11 o ≡ true → decode_in Second (encode (CondJmp o)) ≡ is (CondJmp o)
unfolding decode_in
cond_back o f =
    rw (eq-eqb (field_of (encode (CondJmp o)) 0 4) 5 (cond-bits o)) (ap (λ (x : Operand). is (CondJmp x)) (operand-back 4 11 5 o (omega arith) (omega arith) f))

-- what 5 says by the first edition is a CondJmp, unless it is the word of no jump
five : (o : Operand) (i : Instruction) → i ≡ conditional o → field_of (encode i) 0 4 ≡ 5 → is (CondJmp o) ≡ is i
five (Reg r) i e h = absurd (let k : field_of (encode i) 0 4 ≡ 6 = ap (λ (j : Instruction). field_of (encode j) 0 4) e ∙ jump-bits (Reg r) in omega arith)
five (Imm v) i e h = ap is (sym e)

by_first : (i : Instruction) → decode (encode i) ≡ is i → decode_in Second (encode i) ≡ is i
unfolding decode_in arm arms
by_first i e = go (eqb (field_of (encode i) 0 4) 5) refl
  where
    w : ℕ
    w = encode i

    go : (t : Bool) → eqb (field_of w 0 4) 5 ≡ t → cond t (is (CondJmp (operand_at w 4 11))) (decode w) ≡ is i
    go true h =
        let l = eqb-true (field_of w 0 4) 5 h in
        five (operand_at w 4 11) i (is_one i (conditional (operand_at w 4 11)) (sym e ∙ low_bits w 5 l)) l
    go false h = e

pub second_back : (i : Instruction) → fits i ≡ true → decode_in Second (encode i) ≡ is i
second_back i f = go (decodable i) refl
  where
    go : (t : Bool) → decodable i ≡ t → decode_in Second (encode i) ≡ is i
    go true d = by_first i (round_trip i f d)
    go false d = let h = register-cjp-only i d in subst (λ (j : Instruction). decode_in Second (encode j) ≡ is j) (sym h.1) (cond_back (Reg h.0) refl)

pub second_fits : (w : ℕ) (i : Instruction) → decode_in Second w ≡ is i → fits i ≡ true
unfolding decode_in
second_fits w i e = go (eqb (field_of w 0 4) 5) e
  where
    go : (t : Bool) → cond t (is (CondJmp (operand_at w 4 11))) (decode w) ≡ is i → fits i ≡ true
    go true q = sym (ap fits (is_one (CondJmp (operand_at w 4 11)) i q)) ∙ operand-within w 4 11
    go false q = decoded-fits w i q
