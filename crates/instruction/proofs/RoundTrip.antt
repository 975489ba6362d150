-- Every instruction whose fields fit decodes back from its word, register-mode CondJmp apart, which never does: the word is a sum
-- of fields that do not meet, so that each field comes back by the one law of packing. Assumes nothing.
use Prim.Native.Nat.{ℕ, ◌+◌, ◌*◌, ◌%◌, ◌^◌, ◌<◌, ◌≤◌}
use mathlib.Core.Path.{◌≡◌, refl, sym, ap, subst, ◌∙◌}
use mathlib.Core.Bool.{Bool, true, false}
use native.Mathlib.Omega.{arith}
use native.Mathlib.Nat.{mod-eq_of_lt, lt_of_lt_of_le}
use lib.Pow.{pow-add, pow_mono}
use lib.Dec.{eqb}
use borrow.Author.Tests.{ltb-true, lt-ltb}
use Rattle.base.proofs.Tests.{clash, both}
use Rattle.base.specs.Told.{is}
use Rattle.base.proofs.ToldLaws.{is_one}
use Rattle.fields.specs.Fields.{field_of, place_of}
use Rattle.fields.proofs.Laws.{unpacked}
use Rattle.instruction.specs.declared.Register.{Register}
use Rattle.instruction.specs.declared.Operand.{Operand}
use Rattle.instruction.specs.declared.Operand.TheVariants.{Reg, Imm}
use Rattle.instruction.specs.declared.ArithOp.{ArithOp}
use Rattle.instruction.specs.declared.ArithmeticOp.{ArithmeticOp}
use Rattle.instruction.specs.declared.CompareOp.{CompareOp}
use Rattle.instruction.specs.declared.Instruction.{Instruction}
use Rattle.instruction.specs.declared.Instruction.TheVariants.{Noop, Mov, MovShift, Arith, ArithRegReg, LdrStr, LdbStb, Cpy, Jmp, CondJmp, Cmp, CallRet}
use Rattle.instruction.specs.Codes.{register_code, arith_code, arithmetic_code, compare_code}
use Rattle.instruction.specs.Decode.{operand_at, arms, arm, decode}
use Rattle.instruction.specs.Encode.{bit, mode, value, encode}
use Rattle.instruction.specs.Fits.{within, operand_fits, fits, decodable}
use Rattle.instruction.proofs.CodeLaws.{register-back, arith-back, arithmetic-back, compare-back, register-lt, arith-lt, arithmetic-lt, compare-lt}

bit-lt : (b : Bool) → bit b < 2
bit-lt true = omega arith
bit-lt false = omega arith

bit-back : (b : Bool) → eqb (bit b) 1 ≡ b
bit-back true = refl
bit-back false = refl

-- the operand that stands at the top of a word
pub operand-back : (at width under : ℕ) (o : Operand) → under < 2 ^ at → 3 ≤ width → operand_fits width o ≡ true
    → operand_at (under + place_of (mode o) at 1 + place_of (value o) (at + 1) width) at width ≡ o
operand-back at width under (Reg r) l h f =
    let w : ℕ = under + place_of 1 at 1 + place_of (register_code r) (at + 1) width in
    let p = pow-add 2 at 1 in
    let e : register_code r % 2 ^ width ≡ register_code r = mod-eq_of_lt (lt_of_lt_of_le (register-lt r) (pow_mono h)) in
    let m : field_of w at 1 ≡ 1 = unpacked w at 1 under 1 (register_code r) (rw (e, p) (omega arith)) l (omega arith) in
    let v : field_of w (at + 1) 3 ≡ register_code r = unpacked w (at + 1) 3 (under + 2 ^ at) (register_code r) 0 (rw (e, p) (omega arith)) (rw p (omega arith)) (register-lt r) in
    rw (m, v, register-back r)
operand-back at width under (Imm n) l h f =
    let w : ℕ = under + place_of 0 at 1 + place_of n (at + 1) width in
    let p = pow-add 2 at 1 in
    let g : n < 2 ^ width = ltb-true n (2 ^ width) f in
    let e : n % 2 ^ width ≡ n = mod-eq_of_lt g in
    let m : field_of w at 1 ≡ 0 = unpacked w at 1 under 0 n (rw (e, p) (omega arith)) l (omega arith) in
    let v : field_of w (at + 1) width ≡ n = unpacked w (at + 1) width under n 0 (rw (e, p) (omega arith)) (rw p (omega arith)) g in
    rw (m, v)

-- the arm that the low four bits pick
pub low_bits : (w n : ℕ) → field_of w 0 4 ≡ n → decode w ≡ arm w n
unfolding decode
low_bits w n e = ap (arm w) e

mov-back : (d : Register) (o : Operand) → operand_fits 8 o ≡ true → decode (encode (Mov d o)) ≡ is (Mov d o)
unfolding arm arms
mov-back d o f =
    let w = encode (Mov d o) in
    let hd = register-lt d in
    let op : field_of w 0 4 ≡ 1 = unpacked w 0 4 0 1 (register_code d % 8 + mode o % 2 * 8 + value o % 256 * 16) (omega arith) (omega arith) (omega arith) in
    let dst : field_of w 4 3 ≡ register_code d = unpacked w 4 3 1 (register_code d) (mode o % 2 + value o % 256 * 2) (omega arith) (omega arith) (omega arith) in
    low_bits w 1 op ∙ rw (dst, register-back d, operand-back 7 8 (1 + register_code d % 8 * 16) o (omega arith) (omega arith) f)

mov-shift-back : (r : Register) (n : ℕ) (left : Bool) (v : ℕ) → n < 2 ^ 3 → v < 2 ^ 5 → decode (encode (MovShift r n left v)) ≡ is (MovShift r n left v)
unfolding arm arms
mov-shift-back r n left v hn hv =
    let w = encode (MovShift r n left v) in
    let hr = register-lt r in
    let hl = bit-lt left in
    let op : field_of w 0 4 ≡ 2 = unpacked w 0 4 0 2 (register_code r % 8 + n % 8 * 8 + bit left % 2 * 64 + v % 32 * 128) (omega arith) (omega arith) (omega arith) in
    let reg : field_of w 4 3 ≡ register_code r = unpacked w 4 3 2 (register_code r) (n % 8 + bit left % 2 * 8 + v % 32 * 16) (omega arith) (omega arith) (omega arith) in
    let amount : field_of w 7 3 ≡ n = unpacked w 7 3 (2 + register_code r % 8 * 16) n (bit left % 2 + v % 32 * 2) (omega arith) (omega arith) (omega arith) in
    let way : field_of w 10 1 ≡ bit left = unpacked w 10 1 (2 + register_code r % 8 * 16 + n % 8 * 128) (bit left) (v % 32) (omega arith) (omega arith) (omega arith) in
    let imm : field_of w 11 5 ≡ v = unpacked w 11 5 (2 + register_code r % 8 * 16 + n % 8 * 128 + bit left % 2 * 1024) v 0 (omega arith) (omega arith) (omega arith) in
    low_bits w 2 op ∙ rw (reg, register-back r, amount, way, bit-back left, imm)

arith-word-back : (d : Register) (o : Operand) (k : ArithOp) → operand_fits 6 o ≡ true → decode (encode (Arith d o k)) ≡ is (Arith d o k)
unfolding arm arms
arith-word-back d o k f =
    let w = encode (Arith d o k) in
    let hd = register-lt d in
    let hk = arith-lt k in
    let op : field_of w 0 4 ≡ 3 = unpacked w 0 4 0 3 (register_code d % 8 + arith_code k % 4 * 8 + mode o % 2 * 32 + value o % 64 * 64) (omega arith) (omega arith) (omega arith) in
    let dst : field_of w 4 3 ≡ register_code d = unpacked w 4 3 3 (register_code d) (arith_code k % 4 + mode o % 2 * 4 + value o % 64 * 8) (omega arith) (omega arith) (omega arith) in
    let by : field_of w 7 2 ≡ arith_code k = unpacked w 7 2 (3 + register_code d % 8 * 16) (arith_code k) (mode o % 2 + value o % 64 * 2) (omega arith) (omega arith) (omega arith) in
    low_bits w 3 op ∙ rw (dst, register-back d, by, arith-back k, operand-back 9 6 (3 + register_code d % 8 * 16 + arith_code k % 4 * 128) o (omega arith) (omega arith) f)

ldr-str-back : (r a : Register) (s : Bool) (n : ℕ) → n < 2 ^ 5 → decode (encode (LdrStr r a s n)) ≡ is (LdrStr r a s n)
unfolding arm arms
ldr-str-back r a s n hn =
    let w = encode (LdrStr r a s n) in
    let hr = register-lt r in
    let ha = register-lt a in
    let hs = bit-lt s in
    let op : field_of w 0 4 ≡ 4 = unpacked w 0 4 0 4 (register_code r % 8 + register_code a % 8 * 8 + bit s % 2 * 64 + n % 32 * 128) (omega arith) (omega arith) (omega arith) in
    let reg : field_of w 4 3 ≡ register_code r = unpacked w 4 3 4 (register_code r) (register_code a % 8 + bit s % 2 * 8 + n % 32 * 16) (omega arith) (omega arith) (omega arith) in
    let address : field_of w 7 3 ≡ register_code a = unpacked w 7 3 (4 + register_code r % 8 * 16) (register_code a) (bit s % 2 + n % 32 * 2) (omega arith) (omega arith) (omega arith) in
    let store : field_of w 10 1 ≡ bit s = unpacked w 10 1 (4 + register_code r % 8 * 16 + register_code a % 8 * 128) (bit s) (n % 32) (omega arith) (omega arith) (omega arith) in
    let shift : field_of w 11 5 ≡ n = unpacked w 11 5 (4 + register_code r % 8 * 16 + register_code a % 8 * 128 + bit s % 2 * 1024) n 0 (omega arith) (omega arith) (omega arith) in
    low_bits w 4 op ∙ rw (reg, register-back r, address, register-back a, store, bit-back s, shift)

ldb-stb-back : (r a : Register) (s : Bool) (n : ℕ) → n < 2 ^ 5 → decode (encode (LdbStb r a s n)) ≡ is (LdbStb r a s n)
unfolding arm arms
ldb-stb-back r a s n hn =
    let w = encode (LdbStb r a s n) in
    let hr = register-lt r in
    let ha = register-lt a in
    let hs = bit-lt s in
    let op : field_of w 0 4 ≡ 8 = unpacked w 0 4 0 8 (register_code r % 8 + register_code a % 8 * 8 + bit s % 2 * 64 + n % 32 * 128) (omega arith) (omega arith) (omega arith) in
    let reg : field_of w 4 3 ≡ register_code r = unpacked w 4 3 8 (register_code r) (register_code a % 8 + bit s % 2 * 8 + n % 32 * 16) (omega arith) (omega arith) (omega arith) in
    let address : field_of w 7 3 ≡ register_code a = unpacked w 7 3 (8 + register_code r % 8 * 16) (register_code a) (bit s % 2 + n % 32 * 2) (omega arith) (omega arith) (omega arith) in
    let store : field_of w 10 1 ≡ bit s = unpacked w 10 1 (8 + register_code r % 8 * 16 + register_code a % 8 * 128) (bit s) (n % 32) (omega arith) (omega arith) (omega arith) in
    let shift : field_of w 11 5 ≡ n = unpacked w 11 5 (8 + register_code r % 8 * 16 + register_code a % 8 * 128 + bit s % 2 * 1024) n 0 (omega arith) (omega arith) (omega arith) in
    low_bits w 8 op ∙ rw (reg, register-back r, address, register-back a, store, bit-back s, shift)

cond-jmp-back : (v : ℕ) → within 11 v ≡ true → decode (encode (CondJmp (Imm v))) ≡ is (CondJmp (Imm v))
unfolding arm arms
cond-jmp-back v f =
    let w = encode (CondJmp (Imm v)) in
    let op : field_of w 0 4 ≡ 5 = unpacked w 0 4 0 5 (mode (Imm v) % 2 + value (Imm v) % 2048 * 2) (omega arith) (omega arith) (omega arith) in
    low_bits w 5 op ∙ rw (operand-back 4 11 5 (Imm v) (omega arith) (omega arith) f)

-- register-mode CondJmp decodes to Jmp
pub register-cjp : (r : Register) → decode (encode (CondJmp (Reg r))) ≡ is (Jmp (Reg r))
unfolding arm arms
register-cjp r =
    let w = encode (CondJmp (Reg r)) in
    let hr = register-lt r in
    let op : field_of w 0 4 ≡ 5 = unpacked w 0 4 0 5 (mode (Reg r) % 2 + value (Reg r) % 2048 * 2) (omega arith) (omega arith) (omega arith) in
    low_bits w 5 op ∙ rw (operand-back 4 11 5 (Reg r) (omega arith) (omega arith) refl)

-- and Jmp is another instruction
not-both : {r : Register} → Jmp (Reg r) ≡ CondJmp (Reg r) → ⊥
not-both e = let z : ◌≡◌ {A = ℕ} 0 1 = cc in omega arith

jmp-back : (o : Operand) → operand_fits 11 o ≡ true → decode (encode (Jmp o)) ≡ is (Jmp o)
unfolding arm arms
jmp-back o f =
    let w = encode (Jmp o) in
    let op : field_of w 0 4 ≡ 6 = unpacked w 0 4 0 6 (mode o % 2 + value o % 2048 * 2) (omega arith) (omega arith) (omega arith) in
    low_bits w 6 op ∙ rw (operand-back 4 11 6 o (omega arith) (omega arith) f)

cmp-back : (r : Register) (o : Operand) (k : CompareOp) → operand_fits 5 o ≡ true → decode (encode (Cmp r o k)) ≡ is (Cmp r o k)
unfolding arm arms
cmp-back r o k f =
    let w = encode (Cmp r o k) in
    let hr = register-lt r in
    let hk = compare-lt k in
    let op : field_of w 0 4 ≡ 7 = unpacked w 0 4 0 7 (register_code r % 8 + compare_code k % 8 * 8 + mode o % 2 * 64 + value o % 32 * 128) (omega arith) (omega arith) (omega arith) in
    let reg : field_of w 4 3 ≡ register_code r = unpacked w 4 3 7 (register_code r) (compare_code k % 8 + mode o % 2 * 8 + value o % 32 * 16) (omega arith) (omega arith) (omega arith) in
    let by : field_of w 7 3 ≡ compare_code k = unpacked w 7 3 (7 + register_code r % 8 * 16) (compare_code k) (mode o % 2 + value o % 32 * 2) (omega arith) (omega arith) (omega arith) in
    low_bits w 7 op ∙ rw (reg, register-back r, by, compare-back k, lt-ltb (compare_code k) 6 hk, operand-back 10 5 (7 + register_code r % 8 * 16 + compare_code k % 8 * 128) o (omega arith) (omega arith) f)

cpy-back : (s t : Register) → decode (encode (Cpy s t)) ≡ is (Cpy s t)
unfolding arm arms
cpy-back s t =
    let w = encode (Cpy s t) in
    let hs = register-lt s in
    let ht = register-lt t in
    let op : field_of w 0 4 ≡ 9 = unpacked w 0 4 0 9 (register_code s % 8 + register_code t % 8 * 8) (omega arith) (omega arith) (omega arith) in
    let source : field_of w 4 3 ≡ register_code s = unpacked w 4 3 9 (register_code s) (register_code t % 8) (omega arith) (omega arith) (omega arith) in
    let target : field_of w 7 3 ≡ register_code t = unpacked w 7 3 (9 + register_code s % 8 * 16) (register_code t) 0 (omega arith) (omega arith) (omega arith) in
    low_bits w 9 op ∙ rw (source, register-back s, target, register-back t)

arith-reg-reg-back : (d a b : Register) (k : ArithmeticOp) → decode (encode (ArithRegReg d a b k)) ≡ is (ArithRegReg d a b k)
unfolding arm arms
arith-reg-reg-back d a b k =
    let w = encode (ArithRegReg d a b k) in
    let hd = register-lt d in
    let hk = arithmetic-lt k in
    let ha = register-lt a in
    let hb = register-lt b in
    let op : field_of w 0 4 ≡ 10 = unpacked w 0 4 0 10 (register_code d % 8 + arithmetic_code k % 8 * 8 + register_code a % 8 * 64 + register_code b % 8 * 512) (omega arith) (omega arith) (omega arith) in
    let dst : field_of w 4 3 ≡ register_code d = unpacked w 4 3 10 (register_code d) (arithmetic_code k % 8 + register_code a % 8 * 8 + register_code b % 8 * 64) (omega arith) (omega arith) (omega arith) in
    let by : field_of w 7 3 ≡ arithmetic_code k = unpacked w 7 3 (10 + register_code d % 8 * 16) (arithmetic_code k) (register_code a % 8 + register_code b % 8 * 8) (omega arith) (omega arith) (omega arith) in
    let one : field_of w 10 3 ≡ register_code a = unpacked w 10 3 (10 + register_code d % 8 * 16 + arithmetic_code k % 8 * 128) (register_code a) (register_code b % 8) (omega arith) (omega arith) (omega arith) in
    let two : field_of w 13 3 ≡ register_code b = unpacked w 13 3 (10 + register_code d % 8 * 16 + arithmetic_code k % 8 * 128 + register_code a % 8 * 1024) (register_code b) 0 (omega arith) (omega arith) (omega arith) in
    low_bits w 10 op ∙ rw (dst, register-back d, by, arithmetic-back k, lt-ltb (arithmetic_code k) 7 hk, one, register-back a, two, register-back b)

call-ret-back : (r : Bool) (n : ℕ) → n < 2 ^ 11 → decode (encode (CallRet r n)) ≡ is (CallRet r n)
unfolding arm arms
call-ret-back r n hn =
    let w = encode (CallRet r n) in
    let hr = bit-lt r in
    let op : field_of w 0 4 ≡ 11 = unpacked w 0 4 0 11 (bit r % 2 + n % 2048 * 2) (omega arith) (omega arith) (omega arith) in
    let ret : field_of w 4 1 ≡ bit r = unpacked w 4 1 11 (bit r) (n % 2048) (omega arith) (omega arith) (omega arith) in
    let address : field_of w 5 11 ≡ n = unpacked w 5 11 (11 + bit r % 2 * 16) n 0 (omega arith) (omega arith) (omega arith) in
    low_bits w 11 op ∙ rw (ret, bit-back r, address)

pub round_trip : (i : Instruction) → fits i ≡ true → decodable i ≡ true → decode (encode i) ≡ is i
unfolding decode arm arms
round_trip Noop f d = refl
round_trip (Mov r o) f d = mov-back r o f
round_trip (MovShift r n left v) f d =
    let h = both (within 3 n) (within 5 v) f in
    mov-shift-back r n left v (ltb-true n (2 ^ 3) h.0) (ltb-true v (2 ^ 5) h.1)
round_trip (Arith r o k) f d = arith-word-back r o k f
round_trip (ArithRegReg r a b k) f d = arith-reg-reg-back r a b k
round_trip (LdrStr r a s n) f d = ldr-str-back r a s n (ltb-true n (2 ^ 5) f)
round_trip (LdbStb r a s n) f d = ldb-stb-back r a s n (ltb-true n (2 ^ 5) f)
round_trip (Cpy s t) f d = cpy-back s t
round_trip (Jmp o) f d = jmp-back o f
round_trip (CondJmp (Reg r)) f d = clash d
round_trip (CondJmp (Imm v)) f d = cond-jmp-back v f
round_trip (Cmp r o k) f d = cmp-back r o k f
round_trip (CallRet r n) f d = call-ret-back r n (ltb-true n (2 ^ 11) f)

-- the form that is not decodable
pub register-cjp-only : (i : Instruction) → decodable i ≡ false → (r : Register) × (i ≡ CondJmp (Reg r))
register-cjp-only Noop d = clash (sym d)
register-cjp-only (Mov r o) d = clash (sym d)
register-cjp-only (MovShift r n left v) d = clash (sym d)
register-cjp-only (Arith r o k) d = clash (sym d)
register-cjp-only (ArithRegReg r a b k) d = clash (sym d)
register-cjp-only (LdrStr r a s n) d = clash (sym d)
register-cjp-only (LdbStb r a s n) d = clash (sym d)
register-cjp-only (Cpy s t) d = clash (sym d)
register-cjp-only (Jmp o) d = clash (sym d)
register-cjp-only (CondJmp (Reg r)) d = (r, refl)
register-cjp-only (CondJmp (Imm v)) d = clash (sym d)
register-cjp-only (Cmp r o k) d = clash (sym d)
register-cjp-only (CallRet r n) d = clash (sym d)

-- it comes back as another instruction
pub no-round-trip : (i : Instruction) → decodable i ≡ false → decode (encode i) ≡ is i → ⊥
no-round-trip i d e =
    let h = register-cjp-only i d in
    let cjp = CondJmp (Reg h.0) in
    not-both (is_one (Jmp (Reg h.0)) cjp (sym (register-cjp h.0) ∙ subst (λ j. decode (encode j) ≡ is j) h.1 e))
