-- A text that is refused: with 26, or with a number that the line which the answer names, counted from 1, gives in some state. So its
-- number is 20 to 32, and 32 names a line that says a CJP to a register, in strict assembly. By going through the lines. Assumes nothing.
use Prim.Native.Nat.{ℕ, suc, ◌+◌, ◌-◌, ◌<◌, ◌≤◌}
use mathlib.Core.Path.{◌≡◌, refl, sym, ap, subst, ◌∙◌}
use mathlib.Core.Bool.{Bool, true, false}
use mathlib.Core.List.{List, [], ◌∷◌}
use mathlib.Core.Logic.{◌⊎◌, inl, inr}
use native.Mathlib.Omega.{arith}
use lib.Dec.{eqb}
use lib.ListN.{length, get_or}
use Rattle.base.specs.Choice.{cond}
use Rattle.base.specs.Told.{Told, is, no}
use Rattle.base.proofs.ToldLaws.{no_one, its-number}
use Rattle.text.specs.Lines.{lines, foreign_line}
use Rattle.asm.specs.Reading.{read}
use Rattle.asm.specs.Strict.{Cjp}
use Rattle.asm.specs.Work.{Task, Work, nothing, turn}
use Rattle.asm.specs.Assemble.{Outcome, refused, next_line, assemble_from, assemble}
use Rattle.asm.proofs.Items.{refused-not}
use Rattle.asm.proofs.Refusals.{Numbers, turn-numbers, strict-refuses}

same_number : (n k line m : ℕ) → refused n line ≡ refused k m → n ≡ k
same_number n k line m e = cc

same_line : (n k line m : ℕ) → refused n line ≡ refused k m → line ≡ m
same_line n k line m e = cc

module _ (t : Task) (n k : ℕ) where
  -- of these lines, before which so many were read, line k gives n, in some state of the work
  pub record Stops (ls : List (List ℕ)) (line : ℕ) : Type 0 where
    pub index : ℕ
    pub there : index < length ls
    pub counted : k ≡ line + 1 + index
    pub at : ℕ
    pub work : Work
    pub turns : turn t at (read (get_or ls index [])) work ≡ no n

  -- of one line more, it is that one or one of those after it
  next : (l : List ℕ) (ls : List (List ℕ)) (at line : ℕ) (w : Work) (x : Told Work) (rest : Work → Outcome) → turn t at (read l) w ≡ x →
      ((v : Work) → rest v ≡ refused n k → Stops ls (line + 1)) → next_line (line + 1) x rest ≡ refused n k → Stops (l ∷ ls) line
  next l ls at line w (is v) rest p later q =
      let r = later v q in
      record {
        index = suc r.index;
        there = omega (arith, r.there);
        counted = omega (arith, r.counted);
        at = r.at;
        work = r.work;
        turns = r.turns;
      }
  next l ls at line w (no m) rest p later q =
      record {
        index = 0;
        there = omega arith;
        counted = omega (arith, same_line m n (line + 1) k q);
        at = at;
        work = w;
        turns = p ∙ ap no (same_number m n (line + 1) k q);
      }

  stops : (ls : List (List ℕ)) (at line : ℕ) (w : Work) → assemble_from t ls at line w ≡ refused n k → Stops ls line
  stops [] at line w e = refused-not n k w (sym e)
  stops (l ∷ ls) at line w e =
      let rest : Work → Outcome = assemble_from t ls (at + length l + 1) (line + 1) in
      next l ls at line w (turn t at (read l) w) rest refl (stops ls (at + length l + 1) (line + 1)) e

  -- 26 over the whole text, or a line of it
  pub refused-by : assemble t ≡ refused n k → (n ≡ 26) ⊎ Stops (lines t.text) 0
  unfolding assemble
  refused-by e = go (eqb (foreign_line 1 t.text) 0) e
    where
      go : (b : Bool) → cond b (assemble_from t (lines t.text) 0 0 nothing) (refused 26 (foreign_line 1 t.text)) ≡ refused n k →
          (n ≡ 26) ⊎ Stops (lines t.text) 0
      go true q = inr (stops (lines t.text) 0 0 nothing q)
      go false q = inl (sym (same_number 26 n (foreign_line 1 t.text) k q))

  pub refused-numbers : assemble t ≡ refused n k → (20 ≤ n) × (n ≤ 32)
  refused-numbers e = go (refused-by e)
    where
      one : (x : Told Work) (strict : Bool) (line : List ℕ) → x ≡ no n → Numbers strict (read line) x → (20 ≤ n) × (n ≤ 32)
      one x strict line p (inl q) =
          let h = no_one 32 n (sym q.0 ∙ p) in
          (omega (arith, h), omega (arith, h))
      one x strict line p (inr q) =
          let h = its-number 20 30 x n q p in
          (h.0, omega (arith, h.1))

      go : (n ≡ 26) ⊎ Stops (lines t.text) 0 → (20 ≤ n) × (n ≤ 32)
      go (inl q) = (omega (arith, q), omega (arith, q))
      go (inr s) =
          let line = get_or (lines t.text) s.index [] in
          one (turn t s.at (read line) s.work) t.strict line s.turns (turn-numbers t s.at s.work line)

-- 32: strict, and the named line says a CJP to a register
pub refused-32 : (t : Task) (k : ℕ) → assemble t ≡ refused 32 k → (t.strict ≡ true) × Cjp (read (get_or (lines t.text) (k - 1) []))
refused-32 t k e = go (refused-by t 32 k e)
  where
    go : (◌≡◌ {A = ℕ} 32 26) ⊎ Stops t 32 k (lines t.text) 0 → (t.strict ≡ true) × Cjp (read (get_or (lines t.text) (k - 1) []))
    go (inl q) = absurd (omega (arith, q))
    go (inr s) =
        let h : s.index ≡ k - 1 = omega (arith, s.counted) in
        subst (λ (i : ℕ). (t.strict ≡ true) × Cjp (read (get_or (lines t.text) i []))) h
        ((strict-refuses t s.at (get_or (lines t.text) s.index []) s.work).0 s.turns)
