-- The low four bits pick a row of the table, and its function is given the fields that the row names. Assumes nothing.
use Prim.Native.Nat.{◌≤◌}
use mathlib.Core.Path.{◌≡◌, sym, ◌∙◌}
use Rattle.base.proofs.Matches.{past}
use Rattle.fields.specs.Fields.{field_of}
use Rattle.instruction.proofs.OpcodeLaws.{decode-noop, decode-mov, decode-mov-shift, decode-arith, decode-ldr-str, decode-jmp, decode-ldb-stb, decode-cpy, decode-call-ret, decode-bad-opcode}
use Rattle.memory.specs.Bytes.{lent}
use Rattle.machine.specs.Acts.{act}
use Rattle.machine.specs.Plan.{decoded}
use Rattle.machine.proofs.words.act_on_word.Goals as goal

pub returns-in-0 : goal.returns-in-0
unfolding decoded act
returns-in-0 c = let w = c.args.w in
    let e : field_of w 0 4 ≡ 0 = sym c.field.ensures ∙ c.in-0.is in
    c.noop.ensures ∙ rw (decode-noop w e)

pub returns-in-1 : goal.returns-in-1
unfolding decoded act
returns-in-1 c = let w = c.args.w in
    let e : field_of w 0 4 ≡ 1 = sym c.field.ensures ∙ c.in-1.is in
    c.mov.ensures ∙ rw (c.register_at-d.ensures, c.operand_at.ensures, decode-mov w e)

pub returns-in-2 : goal.returns-in-2
unfolding decoded act
returns-in-2 c = let w = c.args.w in
    let e : field_of w 0 4 ≡ 2 = sym c.field.ensures ∙ c.in-2.is in
    c.mov_shift.ensures ∙ rw (c.register_at-d.ensures, c.byte_at.ensures, c.bit_at.ensures, c.field-in-2.ensures, decode-mov-shift w e)

pub returns-in-3 : goal.returns-in-3
unfolding decoded act
returns-in-3 c = let w = c.args.w in
    let e : field_of w 0 4 ≡ 3 = sym c.field.ensures ∙ c.in-3.is in
    c.arith.ensures ∙ rw (c.register_at-d.ensures, c.operand_at-in-3.ensures, c.arith_of-op.ensures, c.field-in-3.ensures, decode-arith w e)

pub returns-in-4 : goal.returns-in-4
unfolding decoded act
returns-in-4 c = let w = c.args.w in
    let e : field_of w 0 4 ≡ 4 = sym c.field.ensures ∙ c.in-4.is in
    c.ldr_str.ensures ∙ rw (c.register_at-d.ensures, c.register_at-a.ensures, c.bit_at-in-4.ensures, c.byte_at-in-4.ensures, decode-ldr-str w e)

pub returns-in-5 : goal.returns-in-5
returns-in-5 c = c.act_on_cond_jmp.ensures c.args.mode c.args.map (lent c.args.mem.now c.args.dev.now)

pub returns-in-6 : goal.returns-in-6
unfolding decoded act
returns-in-6 c = let w = c.args.w in
    let e : field_of w 0 4 ≡ 6 = sym c.field.ensures ∙ c.in-6.is in
    c.jmp.ensures ∙ rw (c.operand_at-in-6.ensures, decode-jmp w e)

pub returns-in-7 : goal.returns-in-7
returns-in-7 c = c.act_on_cmp.ensures c.args.mode c.args.map (lent c.args.mem.now c.args.dev.now)

pub returns-in-8 : goal.returns-in-8
unfolding decoded act
returns-in-8 c = let w = c.args.w in
    let e : field_of w 0 4 ≡ 8 = sym c.field.ensures ∙ c.in-8.is in
    c.ldb_stb.ensures ∙ rw (c.register_at-d.ensures, c.register_at-a-in-8.ensures, c.bit_at-in-8.ensures, c.byte_at-in-8.ensures, decode-ldb-stb w e)

pub returns-in-9 : goal.returns-in-9
unfolding decoded act
returns-in-9 c = let w = c.args.w in
    let e : field_of w 0 4 ≡ 9 = sym c.field.ensures ∙ c.in-9.is in
    c.cpy.ensures ∙ rw (c.register_at-d.ensures, c.register_at.ensures, decode-cpy w e)

pub returns-in-10 : goal.returns-in-10
returns-in-10 c = c.act_on_arith_reg_reg.ensures c.args.mode c.args.map (lent c.args.mem.now c.args.dev.now)

pub returns-in-11 : goal.returns-in-11
unfolding decoded act
returns-in-11 c = let w = c.args.w in
    let e : field_of w 0 4 ≡ 11 = sym c.field.ensures ∙ c.in-11.is in
    c.call_ret.ensures ∙ rw (c.bit_at-in-11.ensures, c.field-in-11.ensures, decode-call-ret w e)

pub returns-in_default : goal.returns-in_default
unfolding decoded
returns-in_default c = let w = c.args.w in
    let h : 12 ≤ field_of w 0 4 = rw (← c.field.ensures) (past 12 c.in_default.in_default-own.rest) in
    rw (decode-bad-opcode w h)
