-- Every byte of a text is below 128: the names are written out, and a digit is at most 57. Assumes nothing.
use mathlib.Core.Path.{◌≡◌, refl}
use mathlib.Core.Bool.{Bool, true, false, ◌&&◌}
use mathlib.Core.List.{List, [], ◌∷◌, ◌++◌}
use Prim.Native.Nat.{ℕ, zero, suc, ◌+◌, ◌/◌, ◌%◌, ◌<◌}
use native.Mathlib.Omega.{arith}
use borrow.Author.Tests.{lt-ltb, ltb-true}
use lib.Dec.{ltb, eqb}
use Rattle.base.specs.Choice.{cond}
use Rattle.instruction.specs.declared.Edition.{Edition}
use Rattle.instruction.specs.declared.Edition.TheVariants.{First, Second}
use Rattle.instruction.specs.declared.Register.{Register}
use Rattle.instruction.specs.declared.Register.TheVariants.{A, B, C, M, SP, PC, BP, FLAGS}
use Rattle.instruction.specs.declared.Operand.{Operand}
use Rattle.instruction.specs.declared.Operand.TheVariants.{Reg, Imm}
use Rattle.instruction.specs.declared.ArithOp.{ArithOp}
use Rattle.instruction.specs.declared.ArithOp.TheVariants as four
use Rattle.instruction.specs.declared.ArithmeticOp.{ArithmeticOp}
use Rattle.instruction.specs.declared.ArithmeticOp.TheVariants as seven
use Rattle.instruction.specs.declared.CompareOp.{CompareOp}
use Rattle.instruction.specs.declared.CompareOp.TheVariants.{Eq, NotEq, Less, LessEq, Greater, GreaterEq}
use Rattle.instruction.specs.declared.Instruction.{Instruction}
use Rattle.instruction.specs.declared.Instruction.TheVariants.{Noop, Mov, MovShift, Arith, ArithRegReg, LdrStr, LdbStb, Cpy, Jmp, CondJmp, Cmp, CallRet}
use Rattle.printer.specs.Text.{bytes, digit, digits, decimal_of, immediate_of, register_name, arith_name, arithmetic_name, compare_name, shift_name, word_name, byte_name, operand_of, one, pair, three, bracketed, shifted, address_of, addressed, call_text, turned, text_in}

unfoldable pub ascii : List ℕ → Bool
ascii [] = true
ascii (b ∷ bs) = ltb b 128 && ascii bs

pub ascii_append : (x y : List ℕ) → ascii (x ++ y) ≡ ascii x && ascii y
unfolding ascii
ascii_append [] y = refl
ascii_append (b ∷ x) y = go (ltb b 128) (ascii_append x y)
  where
    go : (t : Bool) → ascii (x ++ y) ≡ ascii x && ascii y → t && ascii (x ++ y) ≡ (t && ascii x) && ascii y
    go true e = e
    go false e = refl

pub digits-ascii : (k n : ℕ) → ascii (digits k n) ≡ true
unfolding digits ascii
digits-ascii zero n = refl
digits-ascii (suc k) n = go (ltb n 10) (λ e. let h : 48 + n < 128 = omega (arith, ltb-true n 10 e) in lt-ltb _ _ h) (digits-ascii k (n / 10)) refl
  where
    last : ltb (48 + n % 10) 128 ≡ true
    last = let h : 48 + n % 10 < 128 = omega arith in lt-ltb _ _ h

    go : (t : Bool) → (ltb n 10 ≡ true → ltb (48 + n) 128 ≡ true) → ascii (digits k (n / 10)) ≡ true → ltb n 10 ≡ t → ascii (cond t (digit n ∷ []) (digits k (n / 10) ++ (digit (n % 10) ∷ []))) ≡ true
    go true f h e = rw (f e)
    go false f h e = rw (ascii_append, h, last)

immediate-ascii : (n : ℕ) → ascii (immediate_of n) ≡ true
unfolding immediate_of decimal_of ascii
immediate-ascii n = digits-ascii 5 n

register-ascii : (r : Register) → ascii (register_name r) ≡ true
unfolding register_name ascii
register-ascii A = refl
register-ascii B = refl
register-ascii C = refl
register-ascii M = refl
register-ascii SP = refl
register-ascii PC = refl
register-ascii BP = refl
register-ascii FLAGS = refl

arith-ascii : (op : ArithOp) → ascii (arith_name op) ≡ true
unfolding arith_name ascii
arith-ascii four.Add = refl
arith-ascii four.Sub = refl
arith-ascii four.Mul = refl
arith-ascii four.Div = refl

arithmetic-ascii : (op : ArithmeticOp) → ascii (arithmetic_name op) ≡ true
unfolding arithmetic_name ascii
arithmetic-ascii seven.Add = refl
arithmetic-ascii seven.Sub = refl
arithmetic-ascii seven.Mul = refl
arithmetic-ascii seven.Div = refl
arithmetic-ascii seven.Mod = refl
arithmetic-ascii seven.Exp = refl
arithmetic-ascii seven.Sqrt = refl

compare-ascii : (op : CompareOp) → ascii (compare_name op) ≡ true
unfolding compare_name ascii
compare-ascii Eq = refl
compare-ascii NotEq = refl
compare-ascii Less = refl
compare-ascii LessEq = refl
compare-ascii Greater = refl
compare-ascii GreaterEq = refl

shift-ascii : (left : Bool) → ascii (shift_name left) ≡ true
unfolding shift_name ascii
shift-ascii true = refl
shift-ascii false = refl

word-ascii : (store : Bool) → ascii (word_name store) ≡ true
unfolding word_name ascii
word-ascii true = refl
word-ascii false = refl

byte-ascii : (store : Bool) → ascii (byte_name store) ≡ true
unfolding byte_name ascii
byte-ascii true = refl
byte-ascii false = refl

operand-ascii : (o : Operand) → ascii (operand_of o) ≡ true
unfolding operand_of
operand-ascii (Reg r) = register-ascii r
operand-ascii (Imm n) = immediate-ascii n

one-ascii : (o : Operand) → ascii (one o) ≡ true
unfolding one ascii
one-ascii o = operand-ascii o

pair-ascii : (r : Register) (o : Operand) → ascii (pair r o) ≡ true
unfolding pair ascii
pair-ascii r o = simp (ascii_append, register-ascii, operand-ascii)

three-ascii : (d a b : Register) → ascii (three d a b) ≡ true
unfolding three ascii
three-ascii d a b = simp (ascii_append, register-ascii, pair-ascii)

bracketed-ascii : (first second : ℕ) → ascii (bracketed first second) ≡ true
unfolding bracketed ascii
bracketed-ascii first second = simp (ascii_append, immediate-ascii)

shifted-ascii : (r : Register) (amount imm : ℕ) → ascii (shifted r amount imm) ≡ true
unfolding shifted ascii
shifted-ascii r amount imm = simp (ascii_append, register-ascii, bracketed-ascii)

address-ascii : (a : Register) (shift : ℕ) → ascii (address_of a shift) ≡ true
unfolding address_of ascii
address-ascii a shift = go (eqb shift 0)
  where
    go : (t : Bool) → ascii (cond t (register_name a) (bytes "[" ++ register_name a ++ bytes " " ++ immediate_of shift ++ bytes "]")) ≡ true
    go true = register-ascii a
    go false = simp (ascii_append, register-ascii, immediate-ascii)

addressed-ascii : (r a : Register) (shift : ℕ) → ascii (addressed r a shift) ≡ true
unfolding addressed ascii
addressed-ascii r a shift = simp (ascii_append, register-ascii, address-ascii)

call-ascii : (ret : Bool) (a : ℕ) → ascii (call_text ret a) ≡ true
unfolding call_text ascii
call-ascii true a = refl
call-ascii false a = one-ascii (Imm a)

turned-ascii : (e : Edition) (r : Register) (amount imm : ℕ) → ascii (turned e r amount imm) ≡ true
unfolding turned
turned-ascii First r amount imm = shifted-ascii r amount imm
turned-ascii Second r amount imm = shifted-ascii r imm amount

pub text-ascii : (e : Edition) (i : Instruction) → ascii (text_in e i) ≡ true
unfolding text_in ascii
text-ascii e Noop = refl
text-ascii e (Mov d o) = pair-ascii d o
text-ascii e (MovShift r amount left imm) = rw (ascii_append, shift-ascii, turned-ascii)
text-ascii e (Arith d o op) = rw (ascii_append, arith-ascii, pair-ascii)
text-ascii e (ArithRegReg d a b op) = rw (ascii_append, arithmetic-ascii, three-ascii)
text-ascii e (LdrStr r a store shift) = rw (ascii_append, word-ascii, addressed-ascii)
text-ascii e (LdbStb r a store shift) = rw (ascii_append, byte-ascii, addressed-ascii)
text-ascii e (Cpy a b) = pair-ascii a (Reg b)
text-ascii e (Jmp o) = one-ascii o
text-ascii e (CondJmp o) = one-ascii o
text-ascii e (Cmp r o op) = rw (ascii_append, compare-ascii, pair-ascii)
text-ascii e (CallRet ret a) = call-ascii ret a
