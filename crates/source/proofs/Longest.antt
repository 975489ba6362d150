-- No text has more than 26 bytes for each word: a line has at most 25, that of a jump or call at most 11, and there are no more label lines,
-- of six bytes, than jumps and calls. SQRTR FLAGS, FLAGS, FLAGS has 25. Assumes nothing.
use Prim.Native.Nat.{ℕ, zero, suc, ◌+◌, ◌*◌, ◌≤◌, ◌<◌}
use mathlib.Core.Path.{◌≡◌, refl, subst}
use mathlib.Core.Bool.{Bool, true, false, ◌||◌}
use mathlib.Core.List.{List, [], ◌∷◌, ◌++◌, map}
use native.Mathlib.Omega.{arith}
use borrow.Author.Tests.{le-ltb, eqb-true, ne_eqb}
use lib.Dec.{eqb}
use lib.ListN.{length, replicate, length-append, length-replicate}
use Rattle.std.specs.Prelude.{Option, Some, None}
use Rattle.base.specs.Bytes.{bytes}
use Rattle.base.specs.Choice.{cond}
use Rattle.base.specs.Told.{is}
use Rattle.base.specs.Words.{doubled}
use Rattle.instruction.specs.declared.Edition.TheVariants.{Second}
use Rattle.instruction.specs.declared.Register.TheVariants.{FLAGS}
use Rattle.instruction.specs.declared.Operand.TheVariants.{Imm}
use Rattle.instruction.specs.declared.ArithmeticOp.TheVariants.{Sqrt}
use Rattle.instruction.specs.declared.Instruction.{Instruction}
use Rattle.instruction.specs.declared.Instruction.TheVariants.{ArithRegReg}
use Rattle.instruction.specs.Encode.{encode}
use Rattle.instruction.specs.Fits.{fits}
use Rattle.instruction.proofs.EditionLaws.{second_back}
use Rattle.text.specs.Lines.{ended}
use Rattle.printer.specs.Text.{register_name, arithmetic_name, operand_of, pair, three, text_in}
use Rattle.printer.proofs.Laws.{one-length, call_length}
use Rattle.printer.proofs.Laws as printer
use Rattle.pen.specs.Numbers.{hex}
use Rattle.parser.specs.declared.Reference.{Reference}
use Rattle.parser.specs.declared.Reference.TheVariants as reference
use Rattle.parser.specs.References.{resolved}
use Rattle.source.specs.declared.aims.Aim.{Aim}
use Rattle.source.specs.Words.{instruction_of, has_text, lowest}
use Rattle.source.specs.Source.{is_noop, plain_line, label_name, to, aim_of, inside, refer_line, label_line, line_by, line_of, aims_at, used_by, lines_of, source_of, source_text, sourced, longest_text}
use Rattle.source.specs.Promises.{Longest}
use Rattle.source.proofs.AskLaws.{instruction-fits}
use Rattle.source.proofs.Refers.{aim-resolved}

-- ---- no more addresses are used than there are jumps and calls

abbrev once : Bool → ℕ
once t = cond t 1 0

-- how many of these, from instruction k on, stand at an address that is used
abbrev marks : (ℕ → Bool) → ℕ → List Instruction → ℕ
marks used k [] = 0
marks used k (i ∷ xs) = once (used (doubled k)) + marks used (k + 1) xs

abbrev weight : Option Aim → ℕ
weight None = 0
weight (Some x) = 1

abbrev aims : List Instruction → ℕ
aims [] = 0
aims (i ∷ xs) = weight (aim_of i) + aims xs

past : (r : Reference) (b k : ℕ) (xs : List Instruction) → b < doubled k → marks (λ a. aims_at a (to r b)) k xs ≡ 0
past r b k [] h = refl
past r b k (i ∷ xs) h = rw (ne_eqb b (doubled k) (λ e. omega arith)) (omega (arith, past r b (k + 1) xs (omega arith)))

never : (k : ℕ) (xs : List Instruction) → marks (λ a. false) k xs ≡ 0
never k [] = refl
never k (i ∷ xs) = omega (arith, never (k + 1) xs)

-- one jump or call uses one address
aim-most : (x : Option Aim) (k : ℕ) (xs : List Instruction) → marks (λ a. aims_at a x) k xs ≤ weight x
aim-most None k xs = omega (arith, never k xs)
aim-most (Some x) k [] = omega arith
aim-most (Some x) k (i ∷ xs) = go (eqb b (doubled k)) refl (aim-most (Some x) (k + 1) xs)
  where
    r : Reference
    r = x.reference

    b : ℕ
    b = x.address

    go : (t : Bool) → eqb b (doubled k) ≡ t → marks (λ a. aims_at a (to r b)) (k + 1) xs ≤ 1 → once t + marks (λ a. aims_at a (to r b)) (k + 1) xs ≤ 1
    go true e ih = let q = eqb-true b (doubled k) e in let z = past r b (k + 1) xs (omega arith) in omega arith
    go false e ih = omega arith

either-most : (p q : ℕ → Bool) (k : ℕ) (xs : List Instruction) → marks (λ a. p a || q a) k xs ≤ marks p k xs + marks q k xs
either-most p q k [] = omega arith
either-most p q k (i ∷ xs) = go (p (doubled k)) (q (doubled k)) (either-most p q (k + 1) xs)
  where
    go : (t u : Bool) → marks (λ a. p a || q a) (k + 1) xs ≤ marks p (k + 1) xs + marks q (k + 1) xs →
        once (t || u) + marks (λ a. p a || q a) (k + 1) xs ≤ once t + marks p (k + 1) xs + (once u + marks q (k + 1) xs)
    go true true h = omega arith
    go true false h = omega arith
    go false true h = omega arith
    go false false h = omega arith

marks-aims : (ys : List Instruction) (k : ℕ) (xs : List Instruction) → marks (used_by ys) k xs ≤ aims ys
marks-aims [] k xs = omega (arith, never k xs)
marks-aims (i ∷ ys) k xs =
    omega (arith, either-most (λ a. aims_at a (aim_of i)) (used_by ys) k xs, aim-most (aim_of i) k xs, marks-aims ys k xs)

-- ---- lines

plain-most : (i : Instruction) → fits i ≡ true → length (plain_line i) ≤ 25
unfolding plain_line
plain-most i f = go (is_noop i)
  where
    go : (t : Bool) → length (cond t (bytes "DBG") (text_in Second i)) ≤ 25
    go true = omega arith
    go false = printer.text-fitting Second i f

jump-most : (r : Reference) (a : ℕ) → length (plain_line (resolved r a)) ≤ 11
unfolding plain_line text_in
jump-most reference.Jmp a = omega (arith, one-length (Imm a))
jump-most reference.CondJmp a = omega (arith, one-length (Imm a))
jump-most reference.Call a = call_length false a

refer-most : (r : Reference) (a : ℕ) → length (refer_line r a) ≤ 10
unfolding refer_line label_name hex
refer-most reference.Jmp a = omega arith
refer-most reference.CondJmp a = omega arith
refer-most reference.Call a = omega arith

label-length : (a : ℕ) → length (label_line a) ≡ 6
unfolding label_line label_name hex
label-length a = refl

-- with byte 10, and a label line for a jump or call
line-most : (n : ℕ) (i : Instruction) → fits i ≡ true → length (line_of n i) + 1 + 7 * weight (aim_of i) ≤ 26
line-most n i f = go (aim_of i) refl
  where
    go : (x : Option Aim) → aim_of i ≡ x → length (line_by n i x) + 1 + 7 * weight x ≤ 26
    go None e = omega (arith, plain-most i f)
    go (Some x) e = pick (inside n x.address)
      where
        pick : (t : Bool) → length (cond t (refer_line x.reference x.address) (plain_line i)) + 1 + 7 ≤ 26
        pick true = omega (arith, refer-most x.reference x.address)
        pick false =
            let h = subst (λ (j : Instruction). length (plain_line j) ≤ 11) (aim-resolved i x.reference x.address e) (jump-most x.reference x.address) in
            omega arith

-- ---- texts

lines-most : (used : ℕ → Bool) (n k : ℕ) (ws : List ℕ) →
    length (ended (lines_of used n k (map instruction_of ws))) + 7 * aims (map instruction_of ws) ≤ 26 * length ws + 7 * marks used k (map instruction_of ws)
lines-most used n k [] = omega arith
lines-most used n k (w ∷ ws) = go (used (doubled k)) (lines-most used n (k + 1) ws) (line-most n i (instruction-fits w))
  where
    i : Instruction
    i = instruction_of w

    xs : List Instruction
    xs = map instruction_of ws

    rest : List ℕ
    rest = ended (lines_of used n (k + 1) xs)

    line : length (line_of n i ++ 10 ∷ rest) ≡ length (line_of n i) + suc (length rest)
    line = length-append (line_of n i) (10 ∷ rest)

    go : (t : Bool) → length rest + 7 * aims xs ≤ 26 * length ws + 7 * marks used (k + 1) xs → length (line_of n i) + 1 + 7 * weight (aim_of i) ≤ 26 →
        length (ended (cond t (label_line (doubled k) ∷ line_of n i ∷ lines_of used n (k + 1) xs) (line_of n i ∷ lines_of used n (k + 1) xs))) + 7 * (weight (aim_of i) + aims xs) ≤
        26 * suc (length ws) + 7 * (once t + marks used (k + 1) xs)
    go true h l = rw length-append (omega (arith, line, label-length (doubled k)))
    go false h l = omega (arith, line)

pub text-most : (ws : List ℕ) → length ws ≤ 32767 → length (source_text ws) ≤ longest_text
unfolding source_of
text-most ws h =
    let xs = map instruction_of ws in
    omega (arith, lines-most (used_by xs) (length xs) 0 ws, marks-aims xs 0 xs)

-- ---- the longest: so many times this word

abbrev long : Instruction
long = ArithRegReg FLAGS FLAGS FLAGS Sqrt

long-said : instruction_of (encode long) ≡ long
unfolding instruction_of
long-said = rw (second_back long refl)

long-line : (n : ℕ) → length (line_of n long) ≡ 25
unfolding plain_line text_in arithmetic_name three pair operand_of register_name
long-line n = refl

no-aim : (n a : ℕ) → used_by (map instruction_of (replicate n (encode long))) a ≡ false
no-aim zero a = refl
no-aim (suc n) a = rw long-said (no-aim n a)

long-lines : (used : ℕ → Bool) → ((a : ℕ) → used a ≡ false) → (m k n : ℕ) → length (ended (lines_of used m k (map instruction_of (replicate n (encode long))))) ≡ 26 * n
long-lines used h m k zero = refl
long-lines used h m k (suc n) =
    rw (h (doubled k), long-said, length-append (line_of m long) (10 ∷ ended (lines_of used m (k + 1) (map instruction_of (replicate n (encode long))))))
    (omega (arith, long-line m, long-lines used h m (k + 1) n))

longs : (n : ℕ) → length (source_text (replicate n (encode long))) ≡ 26 * n
unfolding source_of
longs n = let xs = map instruction_of (replicate n (encode long)) in long-lines (used_by xs) (no-aim n) (length xs) 0 n

-- and it is given, where there is room for it
long-text : has_text (encode long) ≡ true
unfolding has_text
long-text = rw (second_back long refl)

long-lowest : (n : ℕ) → lowest (replicate n (encode long)) ≡ n
long-lowest zero = refl
long-lowest (suc n) = rw (long-text, long-lowest n)

long-sourced : (n room : ℕ) → n ≤ 32767 → 26 * n ≤ room → sourced (replicate n (encode long)) room ≡ is (26 * n)
unfolding sourced
long-sourced n room h k = rw (length-replicate, le-ltb 32767 n h, long-lowest n, le-ltb n n (omega arith), longs n, le-ltb room (26 * n) k)

pub longest : Longest
longest = (text-most, (replicate 32767 (encode long), (length-replicate 32767 (encode long), long-sourced 32767 longest_text (omega arith) (omega arith))))
