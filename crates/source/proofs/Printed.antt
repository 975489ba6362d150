-- A printed line, in each edition, is read back as its instruction where the fields fit, operand by operand; but NOOP is no mnemonic, no line
-- says a return with an address, and the first edition has MSL's and MSR's two numbers in the other order. So every line of a source text
-- that says an instruction is read back, Noop's by DBG. Assumes nothing.
use Prim.Native.Nat.{ℕ, ◌^◌, ◌<◌, ◌≤◌}
use mathlib.Core.Path.{◌≡◌, refl, ap, ◌∙◌}
use mathlib.Core.Bool.{Bool, true, false}
use mathlib.Core.List.{List, [], ◌∷◌, ◌++◌}
use native.Mathlib.Omega.{arith}
use native.Mathlib.Nat.{lt_of_lt_of_le}
use lib.Pow.{pow_mono}
use borrow.Author.Tests.{le-leb, ltb-true, eqb-true}
use lib.Dec.{eqb}
use Rattle.std.specs.Prelude.{Some}
use Rattle.base.specs.Bytes.{bytes}
use Rattle.base.specs.Choice.{cond}
use Rattle.base.specs.Told.{is}
use Rattle.base.proofs.Tests.{clash, both}
use Rattle.instruction.specs.declared.Edition.{Edition}
use Rattle.instruction.specs.declared.Edition.TheVariants.{First, Second}
use Rattle.instruction.specs.declared.Register.{Register}
use Rattle.instruction.specs.declared.Operand.{Operand}
use Rattle.instruction.specs.declared.Operand.TheVariants.{Reg, Imm}
use Rattle.instruction.specs.declared.Instruction.{Instruction}
use Rattle.instruction.specs.declared.Instruction.TheVariants.{Noop, Mov, MovShift, Arith, ArithRegReg, LdrStr, LdbStb, Cpy, Jmp, CondJmp, Cmp, CallRet}
use Rattle.instruction.specs.Fits.{within, operand_fits, fits}
use Rattle.text.proofs.JoinedLaws.{is_plain, every}
use Rattle.text.proofs.EndedLaws.{is_printed, printed-joined}
use Rattle.printer.specs.Text.{immediate_of, register_name, operand_of, text_in}
use Rattle.mnemonics.specs.Mnemonics.{kind_of}
use Rattle.mnemonics.specs.declared.Kind.TheVariants as kind
use Rattle.parser.specs.Answers as Answers
use Rattle.parser.specs.Operands.{starts, operand, opened_immediate, closed_byte, register_and_operand, three_registers, shift_operands, bracketed, address}
use Rattle.parser.specs.Parse as Parse
use Rattle.parser.specs.Parse.{parse, takes, meaning, mov, compare, copy, arith_reg_reg, mov_shift, transfer, target, callee}
use Rattle.asm.specs.Reading.{read, says}
use Rattle.asm.proofs.Lines.{says-joined}
use Rattle.source.specs.Source.{is_noop, plain_line}
use Rattle.source.specs.Promises.{prints_back, PrintedBack, LineBack}
use Rattle.source.proofs.Numbers.{immediate-back, closed-number}
use Rattle.source.proofs.Names.{known, register-back, comma-back, name_of, named, dbg-kind}
use Rattle.source.proofs.Spelled.{comma, bracket_tokens, address_tokens, tokens_of, text-joined, text-plain}

-- ---- operands

hashed : (n : ℕ) → starts 35 (immediate_of n) ≡ true
unfolding immediate_of
hashed n = refl

-- a number of so many bits is one of sixteen
fits_16 : (width n : ℕ) → width ≤ 11 → within width n ≡ true → n ≤ 65535
fits_16 width n w f =
    let l : n < 2 ^ 11 = lt_of_lt_of_le (ltb-true n (2 ^ width) f) (pow_mono w) in
    omega arith

operand-back : (width : ℕ) (o : Operand) → width ≤ 11 → operand_fits width o ≡ true → operand (operand_of o) ≡ is o
unfolding operand operand_of
operand-back width (Reg r) w f = rw ((known r).no-hash, register-back r)
operand-back width (Imm n) w f = rw (hashed n, immediate-back n (fits_16 width n w f))

opened-number : (n : ℕ) → n ≤ 65535 → opened_immediate (91 ∷ immediate_of n) ≡ is n
unfolding immediate_of
opened-number n h = immediate-back n h

closed-back : (over n : ℕ) → n < 2 ^ 5 → closed_byte over (immediate_of n ++ 93 ∷ []) ≡ is n
closed-back over n h =
    let m : n ≤ 65535 = omega arith in
    let l : n ≤ 255 = omega arith in
    rw (closed-number n, immediate-back n m, le-leb n 255 l)

target-back : (conditional : Bool) (o : Operand) → operand_fits 11 o ≡ true → target conditional (operand_of o) ≡ is (Answers.says (Parse.jumping conditional o))
unfolding target operand_of
target-back conditional (Reg r) f = rw ((known r).no-hash, register-back r)
target-back conditional (Imm n) f = rw (hashed n, immediate-back n (fits_16 11 n (omega arith) f))

-- ---- those of a line

module _ (m : List ℕ) where
  two_back : (d : Register) (o : Operand) (width : ℕ) → width ≤ 11 → operand_fits width o ≡ true →
      register_and_operand (m ∷ comma d ∷ operand_of o ∷ []) ≡ is (Answers.both d o)
  unfolding register_and_operand
  two_back d o width w f = rw (comma-back d, operand-back width o w f)

  three_back : (d a b : Register) → three_registers (m ∷ comma d ∷ comma a ∷ register_name b ∷ []) ≡ is (Answers.triple d a b)
  unfolding three_registers
  three_back d a b = rw (comma-back d, comma-back a, register-back b)

  -- the first number is the immediate
  turn-back : (r : Register) (imm amount : ℕ) → imm ≤ 65535 → amount < 2 ^ 5 →
      shift_operands (m ∷ comma r ∷ bracket_tokens (immediate_of imm) amount) ≡ is (Answers.turn r imm amount)
  unfolding shift_operands
  turn-back r imm amount h k = rw (comma-back r, opened-number imm h, closed-back 22 amount k)

  transfer-back : (byte store : Bool) (r a : Register) (shift : ℕ) → kind_of m ≡ Some (kind.Transfer byte store) → shift < 2 ^ 5 →
      parse (m ∷ comma r ∷ address_tokens a shift) ≡ is (Answers.says (Parse.transferred byte r a store shift))
  unfolding parse takes meaning transfer address bracketed
  transfer-back byte store r a shift k h = go (eqb shift 0) refl
    where
      go : (t : Bool) → eqb shift 0 ≡ t → parse (m ∷ comma r ∷ cond t (register_name a ∷ []) (bracket_tokens (register_name a) shift)) ≡
          is (Answers.says (Parse.transferred byte r a store shift))
      go true e = rw (k, comma-back r, (known a).no-bracket, register-back a, eqb-true shift 0 e)
      go false e = rw (k, comma-back r, (known a).opened, register-back a, closed-back 24 shift h)

-- ---- each form

-- MSL and MSR with the immediate first
shift_back : (r : Register) (amount : ℕ) (left : Bool) (imm : ℕ) → amount < 2 ^ 5 → imm < 2 ^ 5 →
    parse (tokens_of Second (MovShift r amount left imm)) ≡ is (Answers.says (MovShift r amount left imm))
unfolding parse takes meaning mov_shift
shift_back r amount left imm h k =
    let i : imm ≤ 65535 = omega arith in
    rw ((named (MovShift r amount left imm)).0, turn-back (name_of (MovShift r amount left imm)) r imm amount i h)

pub parse-back : (e : Edition) (i : Instruction) → fits i ≡ true → prints_back e i ≡ true → parse (tokens_of e i) ≡ is (Answers.says i)
unfolding parse takes meaning mov Parse.arith compare copy arith_reg_reg callee
parse-back e Noop f s = clash s
parse-back e (Mov d o) f s = rw ((named (Mov d o)).0, two_back (name_of (Mov d o)) d o 8 (omega arith) f)
parse-back First (MovShift r n left v) f s = clash s
parse-back Second (MovShift r n left v) f s =
    let h = both (within 3 n) (within 5 v) f in
    let l = ltb-true n (2 ^ 3) h.0 in
    shift_back r n left v (omega arith) (ltb-true v (2 ^ 5) h.1)
parse-back e (Arith d o k) f s = rw ((named (Arith d o k)).0, two_back (name_of (Arith d o k)) d o 6 (omega arith) f)
parse-back e (ArithRegReg d a b k) f s = rw ((named (ArithRegReg d a b k)).0, three_back (name_of (ArithRegReg d a b k)) d a b)
parse-back e (LdrStr r a store n) f s = transfer-back (name_of (LdrStr r a store n)) false store r a n (named (LdrStr r a store n)).0 (ltb-true n (2 ^ 5) f)
parse-back e (LdbStb r a store n) f s = transfer-back (name_of (LdbStb r a store n)) true store r a n (named (LdbStb r a store n)).0 (ltb-true n (2 ^ 5) f)
parse-back e (Cpy a b) f s = rw ((named (Cpy a b)).0, comma-back a, register-back b)
parse-back e (Jmp o) f s = rw ((named (Jmp o)).0, target-back false o f)
parse-back e (CondJmp o) f s = rw ((named (CondJmp o)).0, target-back true o f)
parse-back e (Cmp r o k) f s = rw ((named (Cmp r o k)).0, two_back (name_of (Cmp r o k)) r o 5 (omega arith) f)
parse-back e (CallRet true a) f s = rw ((named (CallRet true a)).0, eqb-true a 0 s)
parse-back e (CallRet false a) f s = rw ((named (CallRet false a)).0, hashed a, immediate-back a (fits_16 11 a (omega arith) f))

-- ---- the lines

pub printed-back : PrintedBack
printed-back e i f s = ap read (text-joined e i) ∙ says-joined (tokens_of e i) i (text-plain e i) (parse-back e i f s)

-- what the first edition prints for MSL and MSR is read with its two numbers in each other's place
pub swapped-back : (r : Register) (amount : ℕ) (left : Bool) (imm : ℕ) → fits (MovShift r amount left imm) ≡ true →
    read (text_in First (MovShift r amount left imm)) ≡ is (says (MovShift r imm left amount))
swapped-back r amount left imm f =
    let i = MovShift r amount left imm in
    let h = both (within 3 amount) (within 5 imm) f in
    let l = ltb-true amount (2 ^ 3) h.0 in
    ap read (text-joined First i) ∙
    says-joined (tokens_of First i) (MovShift r imm left amount) (text-plain First i) (shift_back r imm left amount (ltb-true imm (2 ^ 5) h.1) (omega arith))

dbg-back : read (bytes "DBG") ≡ is (says Noop)
unfolding parse takes meaning is_plain
dbg-back = says-joined (bytes "DBG" ∷ []) Noop (refl, tt) (rw dbg-kind)

-- the style of a source text
pub line-back : LineBack
unfolding plain_line
line-back Noop f s = dbg-back
line-back (Mov d o) f s = printed-back Second (Mov d o) f s
line-back (MovShift r amount left imm) f s = printed-back Second (MovShift r amount left imm) f s
line-back (Arith d o op) f s = printed-back Second (Arith d o op) f s
line-back (ArithRegReg d a b op) f s = printed-back Second (ArithRegReg d a b op) f s
line-back (LdrStr r a store shift) f s = printed-back Second (LdrStr r a store shift) f s
line-back (LdbStb r a store shift) f s = printed-back Second (LdbStb r a store shift) f s
line-back (Cpy a b) f s = printed-back Second (Cpy a b) f s
line-back (Jmp o) f s = printed-back Second (Jmp o) f s
line-back (CondJmp o) f s = printed-back Second (CondJmp o) f s
line-back (Cmp r o op) f s = printed-back Second (Cmp r o op) f s
line-back (CallRet ret a) f s = printed-back Second (CallRet ret a) f s

pub plain-printed-line : (i : Instruction) → every is_printed (plain_line i) ≡ true
unfolding plain_line
plain-printed-line i = go (is_noop i)
  where
    go : (t : Bool) → every is_printed (cond t (bytes "DBG") (text_in Second i)) ≡ true
    go true = refl
    go false = rw (text-joined Second i) (printed-joined (tokens_of Second i) (text-plain Second i))
