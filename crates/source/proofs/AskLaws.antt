-- What a word says and whether it has a text, by what it decodes to; and the lowest word without a text is the first of these. Assumes
-- nothing.
use mathlib.Core.Path.{◌≡◌, refl, sym, ◌∙◌}
use mathlib.Core.Bool.{Bool, true, false}
use mathlib.Core.List.{List, ◌∷◌}
use Prim.Native.Nat.{ℕ, suc, ◌+◌, ◌≤◌, ◌<◌}
use native.Mathlib.Omega.{arith}
use borrow.Author.Tests.{eqb-true, ltb-true, ltb-false}
use lib.Dec.{eqb, ltb}
use lib.ListN.{length}
use Rattle.std.specs.Prelude.{not, Some, None, Result, Ok, Err, MatchResult}
use Rattle.std.specs.Result.{result_unwrap_or}
use Rattle.base.specs.Choice.{cond}
use Rattle.std.specs.List.{position, position_or_len}
use Rattle.std.proofs.lemmas.List.Recursion.{is_position_or_len}
use Rattle.base.specs.Told.{Told, is, no, told}
use Rattle.base.specs.declared.refusals.Refusal.{Refusal}
use Rattle.base.proofs.Tests.{clash, both}
use Rattle.instruction.specs.declared.Edition.TheVariants.{Second}
use Rattle.instruction.specs.declared.Instruction.{Instruction}
use Rattle.instruction.specs.declared.Instruction.TheVariants.{Noop}
use Rattle.instruction.specs.Editions.{decode_in}
use Rattle.instruction.specs.Encode.{encode}
use Rattle.instruction.specs.Fits.{fits, sayable}
use Rattle.instruction.proofs.EditionLaws.{second_fits}
use Rattle.source.specs.Words.{or_noop, instruction_of, is_said, has_text, lowest}

module _ (w : ℕ) where
  pub says : (r : Result Instruction Refusal) → told r ≡ decode_in Second w → result_unwrap_or r Noop ≡ instruction_of w
  unfolding instruction_of
  says (Ok i) e = rw (← e)
  says (Err q) e = rw (← e)

  pub said : (r : Result Instruction Refusal) (t : Bool) → told r ≡ decode_in Second w → MatchResult r (λ i. t ≡ is_said w (is i)) (λ _. t ≡ false) → t ≡ has_text w
  unfolding has_text
  said (Ok i) t e h = rw (← e) h
  said (Err q) t e h = rw (← e) h

-- what is written for a word fits
pub instruction-fits : (w : ℕ) → fits (instruction_of w) ≡ true
unfolding instruction_of
instruction-fits w = go (decode_in Second w) refl
  where
    go : (d : Told Instruction) → decode_in Second w ≡ d → fits (or_noop d) ≡ true
    go (is i) e = second_fits w i e
    go (no n) e = refl

-- and where the word has a text, it is the very word of that, and a line says that
pub text_says : (w : ℕ) → has_text w ≡ true → (encode (instruction_of w) ≡ w) × (sayable (instruction_of w) ≡ true)
unfolding has_text instruction_of
text_says w h = go (decode_in Second w) h
  where
    go : (d : Told Instruction) → is_said w d ≡ true → (encode (or_noop d) ≡ w) × (sayable (or_noop d) ≡ true)
    go (is i) e = let t = both (eqb (encode i) w) (sayable i) e in (eqb-true (encode i) w t.0, t.1)
    go (no n) e = clash e

-- ---- the lowest word without a text

lowest-place : (ws : List ℕ) → lowest ws ≡ position_or_len (λ w. not (has_text w)) ws
lowest-place = is_position_or_len lowest (λ w. not (has_text w)) refl step
  where
    step : (w : ℕ) (ws : List ℕ) → lowest (w ∷ ws) ≡ cond (not (has_text w)) 0 (1 + lowest ws)
    step w ws = go (has_text w)
      where
        go : (t : Bool) → cond t (suc (lowest ws)) 0 ≡ cond (not t) 0 (1 + lowest ws)
        go true = omega arith
        go false = refl

module _ (ws : List ℕ) where
  pub lowest-some : (k : ℕ) → position (λ w. not (has_text w)) ws ≡ Some k → (k ≡ lowest ws) × (k < length ws)
  lowest-some k e = go (ltb l (length ws)) refl e
    where
      l : ℕ
      l = position_or_len (λ w. not (has_text w)) ws

      go : (t : Bool) → ltb l (length ws) ≡ t → cond t (Some l) None ≡ Some k → (k ≡ lowest ws) × (k < length ws)
      go true q h = let s : l ≡ k = cc in (sym s ∙ sym (lowest-place ws), rw (← s) (ltb-true l (length ws) q))
      go false q h = absurd cc

  pub lowest-none : position (λ w. not (has_text w)) ws ≡ None → length ws ≤ lowest ws
  lowest-none e = go (ltb l (length ws)) refl e
    where
      l : ℕ
      l = position_or_len (λ w. not (has_text w)) ws

      go : (t : Bool) → ltb l (length ws) ≡ t → cond t (Some l) None ≡ None → length ws ≤ lowest ws
      go true q h = absurd cc
      go false q h = rw lowest-place (ltb-false l (length ws) q)
