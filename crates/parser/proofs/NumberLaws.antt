-- With which numbers a line that has a token is refused: rule by rule, each from those of the operands it reads. Assumes nothing.
use Prim.Native.Nat.{ℕ, zero, suc}
use mathlib.Core.Path.{◌≡◌, refl}
use mathlib.Core.List.{List, [], ◌∷◌}
use mathlib.Core.Bool.{Bool, true, false}
use mathlib.Core.Logic.{◌⊎◌, inl, inr}
use lib.Dec.{leb}
use lib.ListN.{length}
use Rattle.base.specs.Choice.{cond}
use Rattle.base.specs.Told.{Told, is, no, ◌>>=◌}
use Rattle.instruction.specs.declared.ArithOp.{ArithOp}
use Rattle.instruction.specs.declared.ArithmeticOp.{ArithmeticOp}
use Rattle.instruction.specs.declared.CompareOp.{CompareOp}
use Rattle.instruction.specs.declared.Instruction.{Instruction}
use Rattle.instruction.specs.declared.Instruction.TheVariants.{Mov, Arith, Cpy, Cmp, CallRet}
use Rattle.instruction.specs.declared.Operand.{Operand}
use Rattle.instruction.specs.declared.Operand.TheVariants.{Reg, Imm}
use Rattle.instruction.specs.declared.Register.{Register}
use Rattle.mnemonics.specs.Mnemonics.{kind_of}
use Rattle.mnemonics.specs.declared.Kind.{Kind}
use Rattle.mnemonics.specs.declared.Kind.TheVariants as kind
use Rattle.text.specs.Immediates.{immediate}
use Rattle.text.specs.Parts.{equals, drop_front, drop_end}
use Rattle.text.proofs.Laws.{immediate-refused}
use Rattle.parser.specs.declared.Reference.TheVariants as reference
use Rattle.std.specs.Prelude.{Option, Some, None}
use Rattle.mnemonics.specs.Tables.{Row}
use Rattle.parser.specs.declared.brackets.Shift.{Shift}
use Rattle.parser.specs.declared.brackets.Address.{Address}
use Rattle.parser.specs.Answers.{Meaning, says, refers, both, triple, turn, at}
use Rattle.parser.specs.Operands.{nth, hash, opening, closing, comma, starts, called, register_names, register_in, register, comma_register, operand, opened_immediate, eight_bits, closed_byte, register_and_operand, three_registers, shift_operands, bracketed, address}
use Rattle.parser.specs.Parse.{takes, saying, mov, arith, compare, copy, combining, arith_reg_reg, turning, mov_shift, moving, transfer, jumping, register_else, target, callee, meaning, counted, parse}

-- the numbers of 01's refusals of a line, apart from those of a blank one and of an unknown label
abbrev pub Number : ℕ → Type 0
Number n = (n ≡ 20) ⊎ ((n ≡ 21) ⊎ ((n ≡ 22) ⊎ (n ≡ 24)))

abbrev pub Fair : {A : Type 0} → Told A → Type 0
Fair (is a) = Unit {0}
Fair (no n) = Number n

20-fair : Number 20
20-fair = inl refl

21-fair : Number 21
21-fair = inr (inl refl)

22-fair : Number 22
22-fair = inr (inr (inl refl))

24-fair : Number 24
24-fair = inr (inr (inr refl))

-- ---- tests, and reads one after the other

if-fair : {A : Type 0} (t : Bool) (a b : Told A) → Fair a → Fair b → Fair (cond t a b)
if-fair true a b p q = p
if-fair false a b p q = q

one : {A B : Type 0} (a : Told A) (f : A → Told B) → Fair a → ((x : A) → Fair (f x)) → Fair (a >>= f)
one (is a) f p q = q a
one (no n) f p q = p

two : {A B C : Type 0} (a : Told A) (b : Told B) (f : A → B → Told C) → Fair a → Fair b → ((x : A) (y : B) → Fair (f x y)) →
    Fair (a >>= λ x. b >>= f x)
two a b f p q r = one a (λ x. b >>= f x) p (λ x. one b (f x) q (r x))

three : {A B C D : Type 0} (a : Told A) (b : Told B) (c : Told C) (f : A → B → C → Told D) → Fair a → Fair b → Fair c →
    ((x : A) (y : B) (z : C) → Fair (f x y z)) → Fair (a >>= λ x. b >>= λ y. c >>= f x y)
three a b c f p q r s = one a (λ x. b >>= λ y. c >>= f x y) p (λ x. two b c (f x) q r (s x))

nth-fair : {A : Type 0} (k : ℕ) (reads : List ℕ → Told A) (line : List (List ℕ)) → ((t : List ℕ) → Fair (reads t)) → Fair (nth k reads line)
nth-fair k reads [] p = 21-fair
nth-fair zero reads (t ∷ ts) p = p t
nth-fair (suc k) reads (t ∷ ts) p = nth-fair k reads ts p

-- ---- one operand

register-fair : (t : List ℕ) → Fair (register t)
unfolding register
register-fair t = go register_names
  where
    go : (rs : List (Row Register)) → Fair (register_in rs t)
    go [] = 20-fair
    go (r ∷ rs) = if-fair (called t r) (is r.value) (register_in rs t) tt (go rs)

comma-fair : (t : List ℕ) → Fair (comma_register t)
comma-fair t = register-fair (drop_end (equals comma) t)

immediate-fair : (t : List ℕ) → Fair (immediate t)
immediate-fair t = go (immediate t) (immediate-refused t)
  where
    go : (a : Told ℕ) → ((n : ℕ) → a ≡ no n → n ≡ 24) → Fair a
    go (is v) h = tt
    go (no n) h = inr (inr (inr (h n refl)))

operand-fair : (t : List ℕ) → Fair (operand t)
unfolding operand
operand-fair t =
    if-fair (starts hash t) (immediate t >>= λ n. is (Imm n)) (register t >>= λ r. is (Reg r))
    (one (immediate t) (λ n. is (Imm n)) (immediate-fair t) (λ n. tt))
    (one (register t) (λ r. is (Reg r)) (register-fair t) (λ r. tt))

opened-fair : (t : List ℕ) → Fair (opened_immediate t)
opened-fair t = immediate-fair (drop_front (equals opening) t)

closed-fair : (over : ℕ) → Number over → (t : List ℕ) → Fair (closed_byte over t)
closed-fair over p t =
    one (immediate (drop_end (equals closing) t)) (eight_bits over) (immediate-fair (drop_end (equals closing) t))
    (λ n. if-fair (leb n 255) (is n) (no over) tt p)

pair-fair : (line : List (List ℕ)) → Fair (register_and_operand line)
unfolding register_and_operand
pair-fair line =
    two (nth 1 comma_register line) (nth 2 operand line) (λ r o. is (both r o)) (nth-fair 1 comma_register line comma-fair) (nth-fair 2 operand line operand-fair) (λ r o. tt)

registers-fair : (line : List (List ℕ)) → Fair (three_registers line)
unfolding three_registers
registers-fair line =
    three (nth 1 comma_register line) (nth 2 comma_register line) (nth 3 register line) (λ d a b. is (triple d a b))
    (nth-fair 1 comma_register line comma-fair) (nth-fair 2 comma_register line comma-fair) (nth-fair 3 register line register-fair) (λ d a b. tt)

turn-fair : (line : List (List ℕ)) → Fair (shift_operands line)
unfolding shift_operands
turn-fair line =
    three (nth 1 comma_register line) (nth 2 opened_immediate line) (nth 3 (closed_byte 22) line) (λ r imm amount. is (turn r imm amount))
    (nth-fair 1 comma_register line comma-fair) (nth-fair 2 opened_immediate line opened-fair) (nth-fair 3 (closed_byte 22) line (closed-fair 22 22-fair)) (λ r imm amount. tt)

address-fair : (line : List (List ℕ)) (t : List ℕ) → Fair (address line t)
unfolding address bracketed
address-fair line t =
    let base = register (drop_front (equals opening) t) in
    if-fair (starts opening t) (bracketed base line) (register t >>= λ r. is (at r 0))
    (two base (nth 3 (closed_byte 24) line) (λ r n. is (at r n)) (register-fair (drop_front (equals opening) t)) (nth-fair 3 (closed_byte 24) line (closed-fair 24 24-fair)) (λ r n. tt))
    (one (register t) (λ r. is (at r 0)) (register-fair t) (λ r. tt))

-- ---- each mnemonic

saying-fair : (f : Register → Operand → Instruction) (p : Register × Operand) → Fair (saying f p)
saying-fair f (r, o) = tt

mov-fair : (line : List (List ℕ)) → Fair (mov line)
unfolding mov
mov-fair line = one (register_and_operand line) (saying Mov) (pair-fair line) (saying-fair Mov)

arith-fair : (op : ArithOp) (line : List (List ℕ)) → Fair (arith op line)
unfolding arith
arith-fair op line =
    let f : Register → Operand → Instruction = λ r o. Arith r o op in
    one (register_and_operand line) (saying f) (pair-fair line) (saying-fair f)

compare-fair : (op : CompareOp) (line : List (List ℕ)) → Fair (compare op line)
unfolding compare
compare-fair op line =
    let f : Register → Operand → Instruction = λ r o. Cmp r o op in
    one (register_and_operand line) (saying f) (pair-fair line) (saying-fair f)

copy-fair : (line : List (List ℕ)) → Fair (copy line)
unfolding copy
copy-fair line =
    two (nth 1 comma_register line) (nth 2 register line) (λ a b. is (says (Cpy a b)))
    (nth-fair 1 comma_register line comma-fair) (nth-fair 2 register line register-fair) (λ a b. tt)

combining-fair : (op : ArithmeticOp) (t : Register × Register × Register) → Fair (combining op t)
combining-fair op (d, a, b) = tt

three-fair : (op : ArithmeticOp) (line : List (List ℕ)) → Fair (arith_reg_reg op line)
unfolding arith_reg_reg
three-fair op line = one (three_registers line) (combining op) (registers-fair line) (combining-fair op)

turning-fair : (left : Bool) (t : Shift) → Fair (turning left t)
turning-fair left t = tt

shift-fair : (left : Bool) (line : List (List ℕ)) → Fair (mov_shift left line)
unfolding mov_shift
shift-fair left line = one (shift_operands line) (turning left) (turn-fair line) (turning-fair left)

moving-fair : (byte store : Bool) (r : Register) (p : Address) → Fair (moving byte store r p)
moving-fair byte store r p = tt

transfer-fair : (byte store : Bool) (line : List (List ℕ)) → Fair (transfer byte store line)
unfolding transfer
transfer-fair byte store line =
    two (nth 1 comma_register line) (nth 2 (address line) line) (moving byte store)
    (nth-fair 1 comma_register line comma-fair) (nth-fair 2 (address line) line (address-fair line)) (moving-fair byte store)

else-fair : (conditional : Bool) (t : List ℕ) (r : Told Register) → Fair (register_else conditional t r)
else-fair conditional t (is r) = tt
else-fair conditional t (no n) = tt

target-fair : (conditional : Bool) (t : List ℕ) → Fair (target conditional t)
unfolding target
target-fair conditional t =
    let f : ℕ → Told Meaning = λ n. is (says (jumping conditional (Imm n))) in
    if-fair (starts hash t) (immediate t >>= f) (register_else conditional t (register t))
    (one (immediate t) f (immediate-fair t) (λ n. tt)) (else-fair conditional t (register t))

callee-fair : (t : List ℕ) → Fair (callee t)
unfolding callee
callee-fair t =
    let f : ℕ → Told Meaning = λ n. is (says (CallRet false n)) in
    if-fair (starts hash t) (immediate t >>= f) (is (refers reference.Call t)) (one (immediate t) f (immediate-fair t) (λ n. tt)) tt

-- ---- the line

meaning-fair : (k : Kind) (line : List (List ℕ)) → Fair (meaning k line)
unfolding meaning
meaning-fair kind.Dbg line = tt
meaning-fair kind.Mov line = mov-fair line
meaning-fair (kind.MovShift left) line = shift-fair left line
meaning-fair kind.Copy line = copy-fair line
meaning-fair (kind.Arith op) line = arith-fair op line
meaning-fair (kind.ArithRegReg op) line = three-fair op line
meaning-fair (kind.Transfer byte store) line = transfer-fair byte store line
meaning-fair (kind.Jump conditional) line = nth-fair 1 (target conditional) line (target-fair conditional)
meaning-fair (kind.Compare op) line = compare-fair op line
meaning-fair kind.Ret line = tt
meaning-fair kind.Call line = nth-fair 1 callee line callee-fair

counted-fair : (k : Option Kind) (n : ℕ) (line : List (List ℕ)) → Fair (counted k n line)
counted-fair None n line = 22-fair
counted-fair (Some k) n line = if-fair (takes k n) (meaning k line) (no 22) (meaning-fair k line) 22-fair

pub parse-fair : (mnemonic : List ℕ) (operands : List (List ℕ)) → Fair (parse (mnemonic ∷ operands))
unfolding parse
parse-fair mnemonic operands = counted-fair (kind_of mnemonic) (length operands) (mnemonic ∷ operands)
