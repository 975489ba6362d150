-- An instruction masked to its widths has the same word, since encoding masks each field, it fits, and a line says it if one says the other. So each word that encoding
-- gives is the word of an instruction that fits. Assumes nothing.
use Prim.Native.Nat.{ℕ, ◌+◌, ◌*◌, ◌%◌, ◌^◌}
use mathlib.Core.Path.{◌≡◌, refl, ap, ◌∙◌}
use mathlib.Core.Bool.{true, false}
use native.Mathlib.Nat.{mod-lt, mod-eq_of_lt}
use borrow.Author.Tests.{lt-ltb, eqb-true}
use lib.Pow.{pow_pos}
use Rattle.fields.specs.Fields.{place_of}
use Rattle.instruction.specs.declared.Instruction.{Instruction}
use Rattle.instruction.specs.declared.Instruction.TheVariants.{Noop, Mov, MovShift, Arith, ArithRegReg, LdrStr, LdbStb, Cpy, Jmp, CondJmp, Cmp, CallRet}
use Rattle.instruction.specs.declared.Operand.{Operand}
use Rattle.instruction.specs.declared.Operand.TheVariants.{Reg, Imm}
use Rattle.instruction.specs.Codes.{arith_code, compare_code}
use Rattle.instruction.specs.Encode.{bit, register_in, encode}
use Rattle.instruction.specs.Fits.{within, operand_fits, fits, sayable}

abbrev masked_operand : ℕ → Operand → Operand
masked_operand width (Reg r) = Reg r
masked_operand width (Imm v) = Imm (v % 2 ^ width)

abbrev pub masked : Instruction → Instruction
masked Noop = Noop
masked (Mov d o) = Mov d (masked_operand 8 o)
masked (MovShift r n left v) = MovShift r (n % 2 ^ 3) left (v % 2 ^ 5)
masked (Arith d o k) = Arith d (masked_operand 6 o) k
masked (ArithRegReg d a b k) = ArithRegReg d a b k
masked (LdrStr r a s n) = LdrStr r a s (n % 2 ^ 5)
masked (LdbStb r a s n) = LdbStb r a s (n % 2 ^ 5)
masked (Cpy a b) = Cpy a b
masked (Jmp o) = Jmp (masked_operand 11 o)
masked (CondJmp o) = CondJmp (masked_operand 11 o)
masked (Cmp r o k) = Cmp r (masked_operand 5 o) k
masked (CallRet ret a) = CallRet ret (a % 2 ^ 11)

-- ---- the same word

place-mask : (v at width : ℕ) → place_of (v % 2 ^ width) at width ≡ place_of v at width
place-mask v at width = ap (λ (x : ℕ). x * 2 ^ at) (mod-eq_of_lt (mod-lt v (pow_pos width)))

pub mask_word : (i : Instruction) → encode (masked i) ≡ encode i
mask_word Noop = refl
mask_word (Mov d (Reg r)) = refl
mask_word (Mov d (Imm v)) = ap (λ (x : ℕ). 1 + register_in d 4 + place_of 0 7 1 + x) (place-mask v 8 8)
mask_word (MovShift r n left v) =
    ap (λ (x : ℕ). 2 + register_in r 4 + x + place_of (bit left) 10 1 + place_of (v % 2 ^ 5) 11 5) (place-mask n 7 3) ∙
    ap (λ (x : ℕ). 2 + register_in r 4 + place_of n 7 3 + place_of (bit left) 10 1 + x) (place-mask v 11 5)
mask_word (Arith d (Reg r) k) = refl
mask_word (Arith d (Imm v) k) = ap (λ (x : ℕ). 3 + register_in d 4 + place_of (arith_code k) 7 2 + place_of 0 9 1 + x) (place-mask v 10 6)
mask_word (ArithRegReg d a b k) = refl
mask_word (LdrStr r a s n) = ap (λ (x : ℕ). 4 + register_in r 4 + register_in a 7 + place_of (bit s) 10 1 + x) (place-mask n 11 5)
mask_word (LdbStb r a s n) = ap (λ (x : ℕ). 8 + register_in r 4 + register_in a 7 + place_of (bit s) 10 1 + x) (place-mask n 11 5)
mask_word (Cpy a b) = refl
mask_word (Jmp (Reg r)) = refl
mask_word (Jmp (Imm v)) = ap (λ (x : ℕ). 6 + place_of 0 4 1 + x) (place-mask v 5 11)
mask_word (CondJmp (Reg r)) = refl
mask_word (CondJmp (Imm v)) = ap (λ (x : ℕ). 5 + place_of 0 4 1 + x) (place-mask v 5 11)
mask_word (Cmp r (Reg x) k) = refl
mask_word (Cmp r (Imm v) k) = ap (λ (x : ℕ). 7 + register_in r 4 + place_of (compare_code k) 7 3 + place_of 0 10 1 + x) (place-mask v 11 5)
mask_word (CallRet ret a) = ap (λ (x : ℕ). 11 + place_of (bit ret) 4 1 + x) (place-mask a 5 11)

-- ---- and it fits

mask-within : (v width : ℕ) → within width (v % 2 ^ width) ≡ true
mask-within v width = lt-ltb (v % 2 ^ width) (2 ^ width) (mod-lt v (pow_pos width))

operand-mask : (width : ℕ) (o : Operand) → operand_fits width (masked_operand width o) ≡ true
operand-mask width (Reg r) = refl
operand-mask width (Imm v) = mask-within v width

pub mask_fits : (i : Instruction) → fits (masked i) ≡ true
mask_fits Noop = refl
mask_fits (Mov d o) = operand-mask 8 o
mask_fits (MovShift r n left v) = rw (mask-within n 3, mask-within v 5)
mask_fits (Arith d o k) = operand-mask 6 o
mask_fits (ArithRegReg d a b k) = refl
mask_fits (LdrStr r a s n) = mask-within n 5
mask_fits (LdbStb r a s n) = mask-within n 5
mask_fits (Cpy a b) = refl
mask_fits (Jmp o) = operand-mask 11 o
mask_fits (CondJmp o) = operand-mask 11 o
mask_fits (Cmp r o k) = operand-mask 5 o
mask_fits (CallRet ret a) = mask-within a 11

-- a line says it, if one says the other
pub mask-sayable : (i : Instruction) → sayable i ≡ true → sayable (masked i) ≡ true
mask-sayable Noop e = refl
mask-sayable (Mov d o) e = refl
mask-sayable (MovShift r n left v) e = refl
mask-sayable (Arith d o k) e = refl
mask-sayable (ArithRegReg d a b k) e = refl
mask-sayable (LdrStr r a s n) e = refl
mask-sayable (LdbStb r a s n) e = refl
mask-sayable (Cpy a b) e = refl
mask-sayable (Jmp o) e = refl
mask-sayable (CondJmp o) e = refl
mask-sayable (Cmp r o k) e = refl
mask-sayable (CallRet true a) e = rw (eqb-true a 0 e)
mask-sayable (CallRet false a) e = refl
