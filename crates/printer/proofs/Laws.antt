-- What printing answers and leaves, by whether the text fits, of an instruction and of a word; and a text's length, which is at most
-- the sum of its parts' bounds, with five digits for an amount as for any number: 26, and 25 where the amount fits. Assumes nothing.
use mathlib.Core.Path.{◌≡◌, refl, sym, ap, ◌∙◌}
use mathlib.Core.Bool.{Bool, true, false}
use mathlib.Core.List.{List, [], ◌∷◌, ◌++◌}
use Prim.Native.Nat.{ℕ, ◌+◌, ◌^◌, ◌≤◌, ◌<◌}
use native.Mathlib.Omega.{arith}
use borrow.Author.Tests.{le-leb, lt-leb, ltb-true}
use lib.Dec.{eqb, leb}
use lib.ListN.{length, take, drop, length-append}
use lib.Seq.{take-append_seam, sets, sets-eq}
use Rattle.base.specs.Choice.{cond}
use Rattle.base.specs.Told.{Told, is, no, ◌>>=◌}
use Rattle.base.proofs.Tests.{both}
use Rattle.base.proofs.ToldLaws.{Numbered}
use Rattle.instruction.specs.declared.Edition.{Edition}
use Rattle.instruction.specs.declared.Edition.TheVariants.{First, Second}
use Rattle.instruction.specs.declared.Register.{Register}
use Rattle.instruction.specs.declared.Register.TheVariants.{A, B, C, M, SP, PC, BP, FLAGS}
use Rattle.instruction.specs.declared.Operand.{Operand}
use Rattle.instruction.specs.declared.Operand.TheVariants.{Reg, Imm}
use Rattle.instruction.specs.declared.ArithOp.{ArithOp}
use Rattle.instruction.specs.declared.ArithOp.TheVariants as four
use Rattle.instruction.specs.declared.ArithmeticOp.{ArithmeticOp}
use Rattle.instruction.specs.declared.ArithmeticOp.TheVariants as seven
use Rattle.instruction.specs.declared.CompareOp.{CompareOp}
use Rattle.instruction.specs.declared.CompareOp.TheVariants.{Eq, NotEq, Less, LessEq, Greater, GreaterEq}
use Rattle.instruction.specs.Decode.{decode}
use Rattle.instruction.specs.Fits.{within, fits}
use Rattle.instruction.proofs.DecodedLaws.{decode-numbered}
use Rattle.instruction.specs.declared.Instruction.{Instruction}
use Rattle.instruction.specs.declared.Instruction.TheVariants.{Noop, Mov, MovShift, Arith, ArithRegReg, LdrStr, LdbStb, Cpy, Jmp, CondJmp, Cmp, CallRet}
use Rattle.printer.specs.Text.{bytes, decimal_of, immediate_of, register_name, arith_name, arithmetic_name, compare_name, shift_name, word_name, byte_name, operand_of, one, pair, three, bracketed, shifted, address_of, addressed, call_text, turned, text_in, text}
use Rattle.printer.specs.Print.{placed, print_next_in, print_buffer_in, print_next, print_buffer, word_next, word_buffer}
use Rattle.printer.specs.Line.{added}
use Rattle.printer.proofs.LineLaws.{whole}
use Rattle.printer.proofs.DecimalLaws.{digits-length, decimal-one}

module _ (e : Edition) (i : Instruction) (at : ℕ) where
  pub next_fits : (room : ℕ) → at + length (text_in e i) ≤ room → print_next_in e i room at ≡ is (at + length (text_in e i))
  unfolding print_next_in
  next_fits room h = rw (le-leb _ _ h)

  pub next-19 : (room : ℕ) → room < at + length (text_in e i) → print_next_in e i room at ≡ no 19
  unfolding print_next_in
  next-19 room h = rw (lt-leb _ _ h)

  pub buffer-fits : (buffer : List ℕ) → at + length (text_in e i) ≤ length buffer → print_buffer_in e i buffer at ≡ placed (text_in e i) buffer at
  unfolding print_buffer_in
  buffer-fits buffer h = rw (le-leb _ _ h)

  pub buffer-19 : (buffer : List ℕ) → length buffer < at + length (text_in e i) → print_buffer_in e i buffer at ≡ buffer
  unfolding print_buffer_in
  buffer-19 buffer h = rw (lt-leb _ _ h)

-- a word: as its instruction is, or the refusal that it says none
module _ (w : ℕ) (i : Instruction) (e : decode w ≡ is i) where
  pub word-next : (room : ℕ) → print_next i room 0 ≡ word_next w room
  unfolding word_next
  word-next room = rw e

  pub word-buffer : (buffer : List ℕ) → print_buffer i buffer 0 ≡ word_buffer w buffer
  unfolding word_buffer
  word-buffer buffer = rw e

module _ (w n : ℕ) (e : decode w ≡ no n) where
  pub none-next : (room : ℕ) → no n ≡ word_next w room
  unfolding word_next
  none-next room = rw e

  pub none-buffer : (buffer : List ℕ) → buffer ≡ word_buffer w buffer
  unfolding word_buffer
  none-buffer buffer = rw e

-- bytes that were stored one by one, where there is room for them
pub placed-sets : (bytes out : List ℕ) (at : ℕ) → at + length bytes ≤ length out → sets out at bytes ≡ placed bytes out at
unfolding placed
placed-sets bytes out at h = sets-eq bytes out at h

-- bytes at the start are the first
pub placed_first : (bytes out : List ℕ) → take (length bytes) (placed bytes out 0) ≡ bytes
unfolding placed
placed_first bytes out = take-append_seam bytes (drop (0 + length bytes) out)

-- ---- lengths

immediate-length : (n : ℕ) → length (immediate_of n) ≤ 6
unfolding immediate_of decimal_of
immediate-length n = omega (arith, digits-length 5 n)

register-length : (r : Register) → length (register_name r) ≤ 5
unfolding register_name
register-length A = omega arith
register-length B = omega arith
register-length C = omega arith
register-length M = omega arith
register-length SP = omega arith
register-length PC = omega arith
register-length BP = omega arith
register-length FLAGS = omega arith

arith-length : (op : ArithOp) → length (arith_name op) ≤ 3
unfolding arith_name
arith-length four.Add = omega arith
arith-length four.Sub = omega arith
arith-length four.Mul = omega arith
arith-length four.Div = omega arith

arithmetic-length : (op : ArithmeticOp) → length (arithmetic_name op) ≤ 5
unfolding arithmetic_name
arithmetic-length seven.Add = omega arith
arithmetic-length seven.Sub = omega arith
arithmetic-length seven.Mul = omega arith
arithmetic-length seven.Div = omega arith
arithmetic-length seven.Mod = omega arith
arithmetic-length seven.Exp = omega arith
arithmetic-length seven.Sqrt = omega arith

compare-length : (op : CompareOp) → length (compare_name op) ≤ 3
unfolding compare_name
compare-length Eq = omega arith
compare-length NotEq = omega arith
compare-length Less = omega arith
compare-length LessEq = omega arith
compare-length Greater = omega arith
compare-length GreaterEq = omega arith

shift-length : (left : Bool) → length (shift_name left) ≤ 3
unfolding shift_name
shift-length true = omega arith
shift-length false = omega arith

word-length : (store : Bool) → length (word_name store) ≤ 3
unfolding word_name
word-length true = omega arith
word-length false = omega arith

byte-length : (store : Bool) → length (byte_name store) ≤ 3
unfolding byte_name
byte-length true = omega arith
byte-length false = omega arith

operand-length : (o : Operand) → length (operand_of o) ≤ 6
unfolding operand_of
operand-length (Reg r) = omega (arith, register-length r)
operand-length (Imm n) = immediate-length n

pub one-length : (o : Operand) → length (one o) ≤ 7
unfolding one
one-length o = omega (arith, operand-length o)

pair-length : (r : Register) (o : Operand) → length (pair r o) ≤ 14
unfolding pair
pair-length r o = simp length-append (omega (arith, register-length r, operand-length o))

three-length : (d a b : Register) → length (three d a b) ≤ 20
unfolding three pair operand_of
three-length d a b = simp length-append (omega (arith, register-length d, register-length a, register-length b))

bracketed-length : (first second : ℕ) → length (bracketed first second) ≤ 15
unfolding bracketed
bracketed-length first second = simp length-append (omega (arith, immediate-length first, immediate-length second))

shifted-length : (r : Register) (amount imm : ℕ) → length (shifted r amount imm) ≤ 23
unfolding shifted
shifted-length r amount imm = simp length-append (omega (arith, register-length r, bracketed-length amount imm))

address-length : (a : Register) (shift : ℕ) → length (address_of a shift) ≤ 14
unfolding address_of
address-length a shift = go (eqb shift 0)
  where
    go : (t : Bool) → length (cond t (register_name a) (bytes "[" ++ register_name a ++ bytes " " ++ immediate_of shift ++ bytes "]")) ≤ 14
    go true = omega (arith, register-length a)
    go false = simp length-append (omega (arith, register-length a, immediate-length shift))

addressed-length : (r a : Register) (shift : ℕ) → length (addressed r a shift) ≤ 22
unfolding addressed
addressed-length r a shift = simp length-append (omega (arith, register-length r, address-length a shift))

pub call_length : (ret : Bool) (a : ℕ) → length (call_text ret a) ≤ 11
unfolding call_text
call_length true a = omega arith
call_length false a = omega (arith, one-length (Imm a))

turned-length : (e : Edition) (r : Register) (amount imm : ℕ) → length (turned e r amount imm) ≤ 23
unfolding turned
turned-length First r amount imm = shifted-length r amount imm
turned-length Second r amount imm = shifted-length r imm amount

-- a bound of 25 or more, where MSL and MSR keep it
text-bound : (n : ℕ) → 25 ≤ n → (e : Edition) (i : Instruction) →
    ((r : Register) (amount : ℕ) (left : Bool) (imm : ℕ) → i ≡ MovShift r amount left imm → length (turned e r amount imm) + 3 ≤ n) →
    length (text_in e i) ≤ n
unfolding text_in
text-bound n h e Noop s = omega arith
text-bound n h e (Mov d o) s = omega (arith, pair-length d o)
text-bound n h e (MovShift r amount left imm) s = rw length-append (omega (arith, shift-length left, s r amount left imm refl))
text-bound n h e (Arith d o op) s = rw length-append (omega (arith, arith-length op, pair-length d o))
text-bound n h e (ArithRegReg d a b op) s = rw length-append (omega (arith, arithmetic-length op, three-length d a b))
text-bound n h e (LdrStr r a store shift) s = rw length-append (omega (arith, word-length store, addressed-length r a shift))
text-bound n h e (LdbStb r a store shift) s = rw length-append (omega (arith, byte-length store, addressed-length r a shift))
text-bound n h e (Cpy a b) s = omega (arith, pair-length a (Reg b))
text-bound n h e (Jmp o) s = omega (arith, one-length o)
text-bound n h e (CondJmp o) s = omega (arith, one-length o)
text-bound n h e (Cmp r o op) s = rw length-append (omega (arith, compare-length op, pair-length r o))
text-bound n h e (CallRet ret a) s = omega (arith, call_length ret a)

pub text-length : (e : Edition) (i : Instruction) → length (text_in e i) ≤ 26
text-length e i = text-bound 26 (omega arith) e i (λ r amount left imm q. omega (arith, turned-length e r amount imm))

-- a line has room for it
pub text_whole : (e : Edition) (i : Instruction) → added [] (text_in e i) ≡ text_in e i
text_whole e i = whole (text_in e i) (omega (arith, text-length e i))

-- an amount that fits has one digit
digit-length : (n : ℕ) → n < 10 → length (immediate_of n) ≡ 2
unfolding immediate_of
digit-length n h = ap (λ (l : List ℕ). length (35 ∷ l)) (decimal-one n h)

few-length : (e : Edition) (r : Register) (amount imm : ℕ) → amount < 10 → length (turned e r amount imm) ≤ 19
unfolding turned shifted bracketed
few-length First r amount imm h = simp length-append (omega (arith, register-length r, digit-length amount h, immediate-length imm))
few-length Second r amount imm h = simp length-append (omega (arith, register-length r, digit-length amount h, immediate-length imm))

pub text-fitting : (e : Edition) (i : Instruction) → fits i ≡ true → length (text_in e i) ≤ 25
text-fitting e i f = text-bound 25 (omega arith) e i (λ r amount left imm q. omega (arith, few-length e r amount imm (few r amount left imm q)))
  where
    few : (r : Register) (amount : ℕ) (left : Bool) (imm : ℕ) → i ≡ MovShift r amount left imm → amount < 10
    few r amount left imm q =
        let h = both (within 3 amount) (within 5 imm) (sym (ap fits q) ∙ f) in
        omega (arith, ltb-true amount (2 ^ 3) h.0)

pub noop-text : text Noop ≡ bytes "NOOP"
unfolding text_in
noop-text = refl

-- no text is empty: what stands after a mnemonic starts with a space
pub text-some : (e : Edition) (i : Instruction) → 0 < length (text_in e i)
unfolding text_in shift_name one pair three addressed call_text
text-some e Noop = omega arith
text-some e (Mov d o) = omega arith
text-some e (MovShift r amount true imm) = omega arith
text-some e (MovShift r amount false imm) = omega arith
text-some e (Arith d o op) = rw length-append (omega arith)
text-some e (ArithRegReg d a b op) = rw length-append (omega arith)
text-some e (LdrStr r a store shift) = rw length-append (omega arith)
text-some e (LdbStb r a store shift) = rw length-append (omega arith)
text-some e (Cpy a b) = omega arith
text-some e (Jmp o) = omega arith
text-some e (CondJmp o) = omega arith
text-some e (Cmp r o op) = rw length-append (omega arith)
text-some e (CallRet true a) = omega arith
text-some e (CallRet false a) = omega arith

-- ---- what printing a word answers is small: a position of at most 26, a number of at most 19

abbrev pub Small : Told ℕ → Type 0
Small (is n) = n ≤ 26
Small (no n) = n ≤ 19

small-next : (i : Instruction) (room : ℕ) → Small (print_next i room 0)
unfolding print_next_in
small-next i room = go (leb (0 + length (text i)) room)
  where
    go : (t : Bool) → Small (cond t (is (0 + length (text i))) (no 19))
    go true = omega (arith, text-length First i)
    go false = omega arith

pub word_small : (w room : ℕ) → Small (word_next w room)
unfolding word_next
word_small w room = go (decode w) (decode-numbered w)
  where
    go : (t : Told Instruction) → Numbered 4 6 t → Small (t >>= λ i. print_next i room 0)
    go (is i) h = small-next i room
    go (no n) h = omega (arith, h.1)
