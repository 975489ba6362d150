-- What a word decodes to where its low four bits are a number, row by row of the table: for a caller that dispatches on them
-- itself. Assumes nothing.
use Prim.Native.Nat.{ℕ, ◌<◌, ◌≤◌}
use mathlib.Core.Path.{◌≡◌}
use lib.ListN.{get_or-eq_default}
use borrow.Author.Tests.{lt-ltb, le-ltb}
use Rattle.base.specs.Told.{is, no}
use Rattle.fields.specs.Fields.{field_of}
use Rattle.instruction.specs.Codes.{arith_of, arithmetic_of, compare_of}
use Rattle.instruction.specs.declared.Instruction.TheVariants.{Noop, Mov, MovShift, Arith, ArithRegReg, LdrStr, LdbStb, Cpy, Jmp, Cmp, CallRet}
use Rattle.instruction.specs.Decode.{register_at, bit_at, operand_at, conditional, arms, arm, decode}

pub decode-noop : (w : ℕ) → field_of w 0 4 ≡ 0 → decode w ≡ is Noop
unfolding decode arm arms
decode-noop w e = rw e

pub decode-mov : (w : ℕ) → field_of w 0 4 ≡ 1 → decode w ≡ is (Mov (register_at w 4) (operand_at w 7 8))
unfolding decode arm arms
decode-mov w e = rw e

pub decode-mov-shift :
    (w : ℕ) → field_of w 0 4 ≡ 2 →
    decode w ≡ is (MovShift (register_at w 4) (field_of w 7 3) (bit_at w 10) (field_of w 11 5))
unfolding decode arm arms
decode-mov-shift w e = rw e

pub decode-arith :
    (w : ℕ) → field_of w 0 4 ≡ 3 →
    decode w ≡ is (Arith (register_at w 4) (operand_at w 9 6) (arith_of (field_of w 7 2)))
unfolding decode arm arms
decode-arith w e = rw e

pub decode-ldr-str :
    (w : ℕ) → field_of w 0 4 ≡ 4 →
    decode w ≡ is (LdrStr (register_at w 4) (register_at w 7) (bit_at w 10) (field_of w 11 5))
unfolding decode arm arms
decode-ldr-str w e = rw e

pub decode-cond-jmp : (w : ℕ) → field_of w 0 4 ≡ 5 → decode w ≡ is (conditional (operand_at w 4 11))
unfolding decode arm arms
decode-cond-jmp w e = rw e

pub decode-jmp : (w : ℕ) → field_of w 0 4 ≡ 6 → decode w ≡ is (Jmp (operand_at w 4 11))
unfolding decode arm arms
decode-jmp w e = rw e

pub decode-cmp :
    (w : ℕ) → field_of w 0 4 ≡ 7 → field_of w 7 3 < 6 →
    decode w ≡ is (Cmp (register_at w 4) (operand_at w 10 5) (compare_of (field_of w 7 3)))
unfolding decode arm arms
decode-cmp w e h = rw (e, lt-ltb _ _ h)

pub decode-bad-compare : (w : ℕ) → field_of w 0 4 ≡ 7 → 6 ≤ field_of w 7 3 → decode w ≡ no 5
unfolding decode arm arms
decode-bad-compare w e h = rw (e, le-ltb _ _ h)

pub decode-ldb-stb :
    (w : ℕ) → field_of w 0 4 ≡ 8 →
    decode w ≡ is (LdbStb (register_at w 4) (register_at w 7) (bit_at w 10) (field_of w 11 5))
unfolding decode arm arms
decode-ldb-stb w e = rw e

pub decode-cpy : (w : ℕ) → field_of w 0 4 ≡ 9 → decode w ≡ is (Cpy (register_at w 4) (register_at w 7))
unfolding decode arm arms
decode-cpy w e = rw e

pub decode-arith-reg-reg :
    (w : ℕ) → field_of w 0 4 ≡ 10 → field_of w 7 3 < 7 →
    decode w ≡ is (ArithRegReg (register_at w 4) (register_at w 10) (register_at w 13) (arithmetic_of (field_of w 7 3)))
unfolding decode arm arms
decode-arith-reg-reg w e h = rw (e, lt-ltb _ _ h)

pub decode-bad-arith : (w : ℕ) → field_of w 0 4 ≡ 10 → 7 ≤ field_of w 7 3 → decode w ≡ no 6
unfolding decode arm arms
decode-bad-arith w e h = rw (e, le-ltb _ _ h)

pub decode-call-ret : (w : ℕ) → field_of w 0 4 ≡ 11 → decode w ≡ is (CallRet (bit_at w 4) (field_of w 5 11))
unfolding decode arm arms
decode-call-ret w e = rw e

pub decode-bad-opcode : (w : ℕ) → 12 ≤ field_of w 0 4 → decode w ≡ no 4
unfolding decode arm arms
decode-bad-opcode w h = get_or-eq_default (arms w) (no 4) {n = field_of w 0 4} h
