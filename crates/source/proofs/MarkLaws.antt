-- A mark is set exactly where the address is used: each instruction sets its own, and an aim has eleven bits, so that no word past the
-- marks is used. So the lines by the marks are those by the addresses used. And one turn of the walk that marks. Assumes nothing.
use mathlib.Core.Path.{◌≡◌, refl, sym, ap, ◌∙◌}
use mathlib.Core.Bool.{Bool, true, false, ◌||◌}
use mathlib.Core.List.{List, [], ◌∷◌, map}
use Prim.Native.Nat.{ℕ, ◌+◌, ◌/◌, ◌%◌, ◌^◌, ◌≤◌, ◌<◌}
use native.Mathlib.Numerals.{add-one}
use native.Mathlib.Omega.{arith}
use borrow.Author.Tests.{eqb-true, eqb-false, eq-eqb, ne_eqb, ltb-true, ltb-false}
use lib.Dec.{eqb, ltb}
use lib.ListN.{length, drop, get_or, set, replicate, length-set, get_or-replicate, drop_of_length-le, get_or-eq_default}
use lib.Seq.{drop-cons, get_or-set_same, get_or-set_other}
use Rattle.std.specs.Prelude.{Option, Some, None}
use Rattle.base.specs.Choice.{cond}
use Rattle.base.specs.Words.{doubled}
use Rattle.base.proofs.Tests.{clash}
use Rattle.instruction.specs.declared.Instruction.{Instruction}
use Rattle.instruction.specs.declared.Instruction.TheVariants.{Noop, Mov, MovShift, Arith, ArithRegReg, LdrStr, LdbStb, Cpy, Jmp, CondJmp, Cmp, CallRet}
use Rattle.instruction.specs.declared.Operand.TheVariants.{Reg, Imm}
use Rattle.instruction.specs.Fits.{fits}
use Rattle.source.specs.declared.aims.Aim.{Aim}
use Rattle.source.specs.Words.{instruction_of}
use Rattle.source.specs.Source.{aim_of, aims_at, used_by, lines_of}
use Rattle.source.specs.Marks.{marked_by, marked, is_marked, used_in}
use Rattle.source.proofs.AskLaws.{instruction-fits}

-- ---- an aim has eleven bits

abbrev pub Below : Option Aim → Type 0
Below None = Unit {0}
Below (Some x) = x.address < 2048

pub aim-below : (i : Instruction) → fits i ≡ true → Below (aim_of i)
aim-below Noop f = tt
aim-below (Mov d o) f = tt
aim-below (MovShift r amount left imm) f = tt
aim-below (Arith d o op) f = tt
aim-below (ArithRegReg d a b op) f = tt
aim-below (LdrStr r a store shift) f = tt
aim-below (LdbStb r a store shift) f = tt
aim-below (Cpy a b) f = tt
aim-below (Jmp (Reg r)) f = tt
aim-below (Jmp (Imm a)) f = ltb-true a (2 ^ 11) f
aim-below (CondJmp (Reg r)) f = tt
aim-below (CondJmp (Imm a)) f = ltb-true a (2 ^ 11) f
aim-below (Cmp r o op) f = tt
aim-below (CallRet true a) f = tt
aim-below (CallRet false a) f = ltb-true a (2 ^ 11) f

aims-below : (x : Option Aim) (a : ℕ) → Below x → aims_at a x ≡ true → a < 2048
aims-below None a h e = clash e
aims-below (Some x) a h e = let q = eqb-true x.address a e in omega arith

abbrev pub AllFit : List Instruction → Type 0
AllFit [] = Unit {0}
AllFit (i ∷ xs) = (fits i ≡ true) × AllFit xs

pub words-fit : (ws : List ℕ) → AllFit (map instruction_of ws)
words-fit [] = tt
words-fit (w ∷ ws) = (instruction-fits w, words-fit ws)

pub used-most : (xs : List Instruction) (a : ℕ) → AllFit xs → used_by xs a ≡ true → a < 2048
used-most [] a g e = clash e
used-most (i ∷ xs) a g e = go (aims_at a (aim_of i)) refl e (used-most xs a g.1)
  where
    go : (t : Bool) → aims_at a (aim_of i) ≡ t → (t || used_by xs a) ≡ true → (used_by xs a ≡ true → a < 2048) → a < 2048
    go true q h ih = aims-below (aim_of i) a (aim-below i g.0) q
    go false q h ih = ih h

-- ---- a mark is set where the address is used

module _ (used : List Bool) (k : ℕ) (h : k < length used) where
  mark-at : (x : Option Aim) → is_marked (marked_by x used) k ≡ (aims_at (doubled k) x || is_marked used k)
  mark-at None = refl
  mark-at (Some x) = go (eqb (a % 2) 0) refl (eqb (a / 2) k) refl
    where
      a : ℕ
      a = x.address

      go : (t : Bool) → eqb (a % 2) 0 ≡ t → (u : Bool) → eqb (a / 2) k ≡ u → is_marked (cond t (set used (a / 2) true) used) k ≡ (eqb a (doubled k) || is_marked used k)
      go true e true q =
          let z = eqb-true (a % 2) 0 e in
          let s = eqb-true (a / 2) k q in
          let d : a ≡ doubled k = omega arith in
          rw (s, get_or-set_same used k true false h, eq-eqb a (doubled k) d)
      go true e false q =
          let s = eqb-false (a / 2) k q in
          rw (get_or-set_other used (a / 2) k true false (λ (z : k ≡ a / 2). s (sym z)), ne_eqb a (doubled k) (λ z. s (omega arith)))
      go false e u q = let s = eqb-false (a % 2) 0 e in rw (ne_eqb a (doubled k) (λ z. s (omega arith)))

length-mark : (x : Option Aim) (used : List Bool) → length (marked_by x used) ≡ length used
length-mark None used = refl
length-mark (Some x) used = go (eqb (x.address % 2) 0)
  where
    go : (t : Bool) → length (cond t (set used (x.address / 2) true) used) ≡ length used
    go true = length-set used (x.address / 2) true
    go false = refl

length_marked : (xs : List Instruction) (used : List Bool) → length (marked xs used) ≡ length used
length_marked [] used = refl
length_marked (i ∷ xs) used = length_marked xs (marked_by (aim_of i) used) ∙ length-mark (aim_of i) used

or_turned : (t u v : Bool) → (u || (t || v)) ≡ (t || u || v)
or_turned true true v = refl
or_turned true false v = refl
or_turned false true v = refl
or_turned false false v = refl

marked-at : (xs : List Instruction) (used : List Bool) (k : ℕ) → k < length used → is_marked (marked xs used) k ≡ (used_by xs (doubled k) || is_marked used k)
marked-at [] used k h = refl
marked-at (i ∷ xs) used k h =
    let next = marked_by (aim_of i) used in
    let l : k < length next = omega (arith, h, length-mark (aim_of i) used) in
    marked-at xs next k l
    ∙ ap (λ (t : Bool). used_by xs (doubled k) || t) (mark-at used k h (aim_of i))
    ∙ or_turned (aims_at (doubled k) (aim_of i)) (used_by xs (doubled k)) (is_marked used k)

or-false : (t : Bool) → (t || false) ≡ t
or-false true = refl
or-false false = refl

module _ (xs : List Instruction) (g : AllFit xs) (k : ℕ) where
  abbrev marks : List Bool
  marks = marked xs (replicate 1024 false)

  within-marks : k < 1024 → is_marked marks k ≡ used_by xs (doubled k)
  within-marks h =
      marked-at xs (replicate 1024 false) k h ∙ ap (λ (b : Bool). used_by xs (doubled k) || b) (get_or-replicate 1024 k false false h) ∙ or-false (used_by xs (doubled k))

  past-marks : 1024 ≤ k → is_marked marks k ≡ used_by xs (doubled k)
  past-marks h =
      let l : length marks ≤ k = omega (arith, h, length_marked xs (replicate 1024 false)) in
      rw (get_or-eq_default marks false l) (go (used_by xs (doubled k)) refl)
    where
      go : (t : Bool) → used_by xs (doubled k) ≡ t → false ≡ t
      go true e = absurd (let m = used-most xs (doubled k) g e in omega arith)
      go false e = refl

  half : doubled k / 2 ≡ k
  half = omega arith

  pub marks-used : used_in (marked xs (replicate 1024 false)) (doubled k) ≡ used_by xs (doubled k)
  marks-used = ap (is_marked marks) half ∙ go (ltb k 1024) refl
    where
      go : (t : Bool) → ltb k 1024 ≡ t → is_marked marks k ≡ used_by xs (doubled k)
      go true e = within-marks (ltb-true k 1024 e)
      go false e = past-marks (ltb-false k 1024 e)

-- ---- so the lines are the same

lines_same : (u v : ℕ → Bool) → ((k : ℕ) → u (doubled k) ≡ v (doubled k)) → (n k : ℕ) (xs : List Instruction) → lines_of u n k xs ≡ lines_of v n k xs
lines_same u v q n k [] = refl
lines_same u v q n k (i ∷ xs) = rw (q k, lines_same u v q n (k + 1) xs)

pub lines-marked : (xs : List Instruction) → AllFit xs → (n : ℕ) → lines_of (used_in (marked xs (replicate 1024 false))) n 0 xs ≡ lines_of (used_by xs) n 0 xs
lines-marked xs g n = lines_same (used_in (marked xs (replicate 1024 false))) (used_by xs) (marks-used xs g) n 0 xs

-- ---- the walk: what is left to mark makes the whole

module _ (ws : List ℕ) (used : List Bool) (i : ℕ) where
  pub mark-more : {next : List Bool} → i < length ws → next ≡ marked_by (aim_of (instruction_of (get_or ws i 0))) used
      → marked (map instruction_of (drop i ws)) used ≡ marked (map instruction_of (drop (i + 1) ws)) next
  mark-more h e = rw (drop-cons ws i 0 h, add-one, e)

  pub mark-no-more : length ws ≤ i → marked (map instruction_of (drop i ws)) used ≡ used
  mark-no-more h = rw (drop_of_length-le ws h)
