-- The name that a reference waits for is its line's second token: JMP, CJP and CALL read that token, and no other line refers. And what
-- a line says is sayable: the one return among its answers has no address. Assumes nothing.
use Prim.Native.Nat.{ℕ}
use mathlib.Core.Path.{◌≡◌, refl}
use mathlib.Core.Bool.{Bool, true, false}
use mathlib.Core.List.{List, [], ◌∷◌}
use lib.ListN.{length, drop}
use Rattle.base.specs.Choice.{cond}
use Rattle.base.specs.Told.{Told, is, no, ◌>>=◌}
use Rattle.instruction.specs.declared.ArithmeticOp.{ArithmeticOp}
use Rattle.instruction.specs.declared.Instruction.{Instruction}
use Rattle.instruction.specs.declared.Instruction.TheVariants.{Mov, Arith, Cpy, Cmp, CallRet}
use Rattle.instruction.specs.declared.Operand.{Operand}
use Rattle.instruction.specs.declared.Operand.TheVariants.{Reg, Imm}
use Rattle.instruction.specs.declared.Register.{Register}
use Rattle.instruction.specs.Fits.{sayable}
use Rattle.mnemonics.specs.Mnemonics.{kind_of}
use Rattle.mnemonics.specs.declared.Kind.{Kind}
use Rattle.mnemonics.specs.declared.Kind.TheVariants as kind
use Rattle.std.specs.Prelude.{Option, Some, None}
use Rattle.parser.specs.declared.brackets.Shift.{Shift}
use Rattle.parser.specs.declared.brackets.Address.{Address}
use Rattle.text.specs.Immediates.{immediate}
use Rattle.text.specs.Tokens.{first}
use Rattle.parser.specs.declared.Reference.{Reference}
use Rattle.parser.specs.declared.Reference.TheVariants as reference
use Rattle.parser.specs.Answers.{Meaning, says, refers}
use Rattle.parser.specs.Operands.{nth, hash, starts, register, comma_register, register_and_operand, three_registers, shift_operands, address}
use Rattle.parser.specs.Parse.{takes, saying, mov, arith, compare, copy, combining, arith_reg_reg, turning, mov_shift, moving, transfer, jumping, register_else, target, callee, meaning, counted, parse}

-- the operand that a line with one operand has
abbrev pub second : List (List ℕ) → List ℕ
second line = first (drop 1 line)

-- where it refers, it is to this name, and where it says an instruction, a line can say that
abbrev pub Names : List ℕ → Told Meaning → Type 0
Names name (is (says i)) = sayable i ≡ true
Names name (is (refers r other)) = other ≡ name
Names name (no n) = Unit {0}

if-names : (name : List ℕ) (t : Bool) (a b : Told Meaning) → Names name a → Names name b → Names name (cond t a b)
if-names name true a b p q = p
if-names name false a b p q = q

then-names : {A : Type 0} (name : List ℕ) (a : Told A) (f : A → Told Meaning) → ((x : A) → Names name (f x)) → Names name (a >>= f)
then-names name (is a) f q = q a
then-names name (no n) f q = tt

-- what reads the second token alone
second-names : (reads : List ℕ → Told Meaning) (line : List (List ℕ)) → ((t : List ℕ) → Names t (reads t)) → Names (second line) (nth 1 reads line)
second-names reads [] p = tt
second-names reads (t ∷ []) p = tt
second-names reads (t ∷ u ∷ ts) p = p u

-- ---- each mnemonic

jumping-said : (conditional : Bool) (o : Operand) → sayable (jumping conditional o) ≡ true
jumping-said true o = refl
jumping-said false o = refl

else-names : (conditional : Bool) (t : List ℕ) (r : Told Register) → Names t (register_else conditional t r)
else-names conditional t (is r) = jumping-said conditional (Reg r)
else-names conditional t (no n) = refl

target-names : (conditional : Bool) (t : List ℕ) → Names t (target conditional t)
unfolding target
target-names conditional t =
    let f : ℕ → Told Meaning = λ n. is (says (jumping conditional (Imm n))) in
    if-names t (starts hash t) (immediate t >>= f) (register_else conditional t (register t))
    (then-names t (immediate t) f (λ n. jumping-said conditional (Imm n))) (else-names conditional t (register t))

callee-names : (t : List ℕ) → Names t (callee t)
unfolding callee
callee-names t =
    let f : ℕ → Told Meaning = λ n. is (says (CallRet false n)) in
    if-names t (starts hash t) (immediate t >>= f) (is (refers reference.Call t)) (then-names t (immediate t) f (λ n. refl)) refl

module _ (name : List ℕ) where
  saying-names : (f : Register → Operand → Instruction) → ((r : Register) (o : Operand) → sayable (f r o) ≡ true) → (p : Register × Operand) → Names name (saying f p)
  saying-names f h (r, o) = h r o

  combining-names : (op : ArithmeticOp) (p : Register × Register × Register) → Names name (combining op p)
  combining-names op (d, a, b) = refl

  turning-names : (left : Bool) (p : Shift) → Names name (turning left p)
  turning-names left p = refl

  moving-names : (byte store : Bool) (r : Register) (p : Address) → Names name (moving byte store r p)
  moving-names true store r p = refl
  moving-names false store r p = refl

  copy-names : (line : List (List ℕ)) → Names name (copy line)
  unfolding copy
  copy-names line =
      let f : Register → Register → Told Meaning = λ a b. is (says (Cpy a b)) in
      then-names name (nth 1 comma_register line) (λ a. nth 2 register line >>= f a) (λ a. then-names name (nth 2 register line) (f a) (λ b. refl))

  transfer-names : (byte store : Bool) (line : List (List ℕ)) → Names name (transfer byte store line)
  unfolding transfer
  transfer-names byte store line =
      then-names name (nth 1 comma_register line) (λ r. nth 2 (address line) line >>= moving byte store r)
      (λ r. then-names name (nth 2 (address line) line) (moving byte store r) (moving-names byte store r))

-- ---- the line

meaning-names : (k : Kind) (line : List (List ℕ)) → Names (second line) (meaning k line)
unfolding meaning mov arith compare arith_reg_reg mov_shift
meaning-names kind.Dbg line = refl
meaning-names kind.Mov line = then-names (second line) (register_and_operand line) (saying Mov) (saying-names (second line) Mov (λ r o. refl))
meaning-names (kind.MovShift left) line = then-names (second line) (shift_operands line) (turning left) (turning-names (second line) left)
meaning-names kind.Copy line = copy-names (second line) line
meaning-names (kind.Arith op) line =
    let f : Register → Operand → Instruction = λ r o. Arith r o op in
    then-names (second line) (register_and_operand line) (saying f) (saying-names (second line) f (λ r o. refl))
meaning-names (kind.ArithRegReg op) line = then-names (second line) (three_registers line) (combining op) (combining-names (second line) op)
meaning-names (kind.Transfer byte store) line = transfer-names (second line) byte store line
meaning-names (kind.Jump conditional) line = second-names (target conditional) line (target-names conditional)
meaning-names (kind.Compare op) line =
    let f : Register → Operand → Instruction = λ r o. Cmp r o op in
    then-names (second line) (register_and_operand line) (saying f) (saying-names (second line) f (λ r o. refl))
meaning-names kind.Ret line = refl
meaning-names kind.Call line = second-names callee line callee-names

counted-names : (k : Option Kind) (n : ℕ) (line : List (List ℕ)) → Names (second line) (counted k n line)
counted-names None n line = tt
counted-names (Some k) n line = if-names (second line) (takes k n) (meaning k line) (no 22) (meaning-names k line) tt

pub parse-names : (ts : List (List ℕ)) → Names (second ts) (parse ts)
unfolding parse
parse-names [] = tt
parse-names (mnemonic ∷ operands) = counted-names (kind_of mnemonic) (length operands) (mnemonic ∷ operands)

pub refers-second : (ts : List (List ℕ)) (r : Reference) (name : List ℕ) → parse ts ≡ is (refers r name) → name ≡ first (drop 1 ts)
refers-second ts r name e = rw e at (parse-names ts)
