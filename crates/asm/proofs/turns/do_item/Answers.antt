-- Each arm is what the definition does with its item. Assumes nothing.
use Prim.Native.Nat.{ℕ}
use lib.ListN.{length, take}
use mathlib.Core.Bool.{Bool}
use mathlib.Core.List.{List}
use mathlib.Core.Path.{◌≡◌, refl, sym, subst}
use Rattle.std.proofs.lemmas.Result.{err_from_is_err_and}
use Rattle.std.specs.Prelude.{Option, Result, Ok}
use Rattle.base.specs.Told.{is}
use Rattle.base.specs.declared.refusals.Refusal.{Refusal}
use Rattle.labels.specs.Labels.{find}
use Rattle.labels.specs.declared.Found.{Found}
use Rattle.labels.specs.declared.Label.{Label}
use Rattle.labels.specs.declared.Open.{Open}
use Rattle.asm.specs.Reading.{item_of}
use Rattle.asm.specs.Views.{entry_of, name_at, turned, work_of, written}
use Rattle.asm.specs.Work.{task, turn}
use Rattle.asm.specs.declared.Counts.{Counts}
use Rattle.asm.specs.declared.Line.{Line}
use Rattle.asm.proofs.TurnLaws.{turn-says, turn-says-refused}
use Rattle.asm.proofs.turns.do_item.Goals as goal

-- with this answer, and these words and open references after it, a line has done what it says
module _ (strict : Bool) (text : List ℕ) (at : ℕ) (f : Option Found) (most : ℕ) (n : Counts) (words : List ℕ) (opens : List Open) where
  abbrev Does : Result Counts Refusal → List ℕ → List Open → Line → Type 0
  Does r words' opens' line = (ls : List Label) → length ls ≡ most → f ≡ find text (name_at text at line) (take n.labels ls) →
      turned r words' (written (entry_of line at f n) ls) opens' ≡ turn (task strict text (length words) most) at (is (item_of line)) (work_of n words ls opens)

pub returns-in-Skip-clause-opens_after : goal.returns-in-Skip-clause-opens_after
unfolding turn
returns-in-Skip-clause-opens_after c =
    let a = c.args in
    subst (Does a.rules.strict a.text.now a.at a.f a.most a.n a.words.now a.opens.now (Ok a.n) a.words.now a.opens.now) (sym c.in-Skip.is) (λ ls room e. refl)

pub returns-in-Label-clause-opens_after : goal.returns-in-Label-clause-opens_after
unfolding turn
returns-in-Label-clause-opens_after c =
    let a = c.args in
    subst (Does a.rules.strict a.text.now a.at a.f a.most a.n a.words.now a.opens.now c.label_line.result c.label_line.new.words c.label_line.new.opens) (sym c.in-Label.is)
    c.label_line.ensures.opens_after

pub returns-in_err-next-in-Says-clause-opens_after : goal.returns-in_err-next-in-Says-clause-opens_after
unfolding turn
returns-in_err-next-in-Says-clause-opens_after c =
    let a = c.args in
    let p = err_from_is_err_and c.from_residual.result c.from_residual.ensures.1 in
    subst (Does a.rules.strict a.text.now a.at a.f a.most a.n a.words.now a.opens.now c.from_residual.result c.add_instruction.new.words a.opens.now) (sym c.in-Says.is)
    (λ ls room e. rw (p.1, p.2) (turn-says-refused (task a.rules.strict a.text.now (length a.words.now) a.most) c.in-Says.i a.n a.words.now ls a.opens.now _ c.in_err-next-in-Says.ensures.words_after))

pub returns-in_ok-next-in-Says-clause-opens_after : goal.returns-in_ok-next-in-Says-clause-opens_after
unfolding turn
returns-in_ok-next-in-Says-clause-opens_after c =
    let a = c.args in
    subst (Does a.rules.strict a.text.now a.at a.f a.most a.n a.words.now a.opens.now (Ok record a.n { words = c.in_ok-next-in-Says.next }) c.add_instruction.new.words a.opens.now) (sym c.in-Says.is)
    (λ ls room e. turn-says (task a.rules.strict a.text.now (length a.words.now) a.most) c.in-Says.i a.n a.words.now ls a.opens.now _ c.in_ok-next-in-Says.ensures.words_after)

pub returns-in-Refers-clause-opens_after : goal.returns-in-Refers-clause-opens_after
unfolding turn
returns-in-Refers-clause-opens_after c =
    let a = c.args in
    subst (Does a.rules.strict a.text.now a.at a.f a.most a.n a.words.now a.opens.now c.refer.result c.refer.new.words c.refer.new.opens) (sym c.in-Refers.is)
    (λ ls room e. c.refer.ensures.by_index a.text.now ls a.most e)
