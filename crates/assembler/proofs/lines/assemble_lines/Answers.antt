-- Where the loop stands, the laws of `LoopLaws` carry the text's outcome from line to line and to the end.
-- Assumes nothing.
use native.Mathlib.Omega.{arith}
use Prim.Native.Nat.{ℕ, ◌<◌, ◌≤◌}
use lib.ListN.{length}
use mathlib.Core.Bool.{Bool}
use mathlib.Core.List.{List}
use mathlib.Core.Path.{◌≡◌, ◌∙◌, ap, sym, subst}
use denote.Ref.{Bor}
use Rattle.std.specs.Prelude.{Result, IfOk}
use Rattle.base.specs.Numbers.{number_of}
use Rattle.base.specs.Told.{Told, is, no}
use Rattle.base.specs.declared.refusals.Refusal.{Refusal}
use Rattle.asm.proofs.LineLaws.{lines_end, task-same}
use Rattle.asm.specs.Assemble.{outcome, refused}
use Rattle.asm.specs.Reading.{read}
use Rattle.asm.specs.Views.{Within, turned, work_of}
use Rattle.asm.specs.Work.{Task, Work, task, turn}
use Rattle.asm.specs.declared.Counts.{Counts}
use Rattle.assembler.proofs.LoopLaws.{begun, carried, ended, ended_refused, foreign-first, stopped}
use Rattle.reader.proofs.LineLaws.{after-line, line-inside}
use Rattle.reader.specs.Reader.{after_line, line_at}
use Rattle.reader.specs.declared.lines.LineReader.{LineReader}
use Rattle.text.specs.Lines.{foreign_line}
use Rattle.assembler.proofs.lines.assemble_lines.Goals as goal

-- what the line at the place did, of the whole text's task
did-it : (strict : Bool) (text line now : List ℕ) (at place room room' labels labels' : ℕ) (w : Work) (x : Told Work) → room ≡ room' → labels ≡ labels' →
    at ≡ place → line ≡ line_at now place → now ≡ text → x ≡ turn (task strict text room labels) at (read line) w → x ≡ turn (task strict text room' labels') place (read (line_at text place)) w
did-it strict text line now at place room room' labels labels' w x r l p e same q =
    q ∙ ap (λ (k : ℕ). turn (task strict text room labels) k (read line) w) p
    ∙ ap (λ (s : List ℕ). turn (task strict text room labels) place (read s) w) (e ∙ ap (λ (s : List ℕ). line_at s place) same)
    ∙ ap (λ (t : Task). turn t place (read (line_at text place)) w) (task-same strict text room room' labels labels' r l)

pub returns-then-foreign-ne0-clause-ended_with : goal.returns-then-foreign-ne0-clause-ended_with
returns-then-foreign-ne0-clause-ended_with c =
    let a = c.args in
    let t = task a.rules.strict a.text.now (length a.words.now) (length a.table.now) in
    ended_refused a.words.now a.table.now (outcome a.rules.strict a.text.now (length a.words.now) (length a.table.now)) _
    (ap (refused 26) c.foreign_line-foreign.ensures ∙ foreign-first t (λ e. c.if-foreign-ne0.true (c.foreign_line-foreign.ensures ∙ e)))

pub loop-at-init : goal.loop-at-init
loop-at-init c =
    let a = c.args in
    let ascii : foreign_line 1 a.text.now ≡ 0 = sym c.foreign_line-foreign.ensures ∙ c.if-foreign-ne0.false in
    let at : c.into_iter-at-iterator.result.at ≡ 0 = ap (λ (r : LineReader). r.at) c.into_iter-at-iterator.ensures.into_iter_gives ∙ c.new-at-items.ensures.1 in
    record {
      same_text = ap (λ (r : LineReader). r.text.now) c.into_iter-at-iterator.ensures.into_iter_gives ∙ ap (λ (b : Bor (List ℕ)). b.now) c.new-at-items.ensures.0;
      few = omega arith;
      within = (omega arith, omega arith, omega arith, omega arith);
      same = rw at (begun (task a.rules.strict a.text.now (length a.words.now) (length a.table.now)) ascii);
    }

pub one_line-done-requires-clause-line_in_bounds : goal.one_line-done-requires-clause-line_in_bounds
one_line-done-requires-clause-line_in_bounds c =
    let l = c.loop-at in
    let s = c.in-Some.ensures.steps in
    let h : l.at-iterator.at < length c.args.text.now = subst (λ (t : List ℕ). l.at-iterator.at < length t) l.invariant.same_text s.2.0 in
    rw (s.2.1, s.2.2, l.invariant.same_text) (line-inside c.args.text.now l.at-iterator.at h)

pub returns-in-Err-clause-ended_with : goal.returns-in-Err-clause-ended_with
returns-in-Err-clause-ended_with c =
    let a = c.args in
    let l = c.loop-at in
    let r = c.loop-at.at-iterator in
    let s = c.in-Some.ensures.steps in
    let h : r.at < length a.text.now = subst (λ (t : List ℕ). r.at < length t) l.invariant.same_text s.2.0 in
    let t = task a.rules.strict a.text.now (length a.words.now) (length a.table.now) in
    let w = work_of l.n l.words l.table l.opens in
    let q : no (number_of c.in-Err.refusal) ≡ turn t r.at (read (line_at a.text.now r.at)) w =
    sym (ap (λ (x : Result Counts Refusal). turned x c.one_line-done.new.words c.one_line-done.new.table c.one_line-done.new.opens) c.in-Err.is)
    ∙ did-it a.rules.strict a.text.now c.in-Some.line.now r.text.now c.in-Some.at r.at (length l.words) (length a.words.now) (length l.table) (length a.table.now) w _ l.auto.words l.auto.table
    s.2.1 s.2.2 l.invariant.same_text c.one_line-done.ensures.opens_after in
    ended_refused c.one_line-done.new.words c.one_line-done.new.table (outcome a.rules.strict a.text.now (length a.words.now) (length a.table.now)) _
    (stopped t r.at l.number w h _ q l.invariant.same)

pub loop-at-preserved : goal.loop-at-preserved
loop-at-preserved c =
    let a = c.args in
    let l = c.loop-at in
    let r = c.loop-at.at-iterator in
    let s = c.in-Some.ensures.steps in
    let h : r.at < length a.text.now = subst (λ (t : List ℕ). r.at < length t) l.invariant.same_text s.2.0 in
    let t = task a.rules.strict a.text.now (length a.words.now) (length a.table.now) in
    let w = work_of l.n l.words l.table l.opens in
    let q : is (work_of c.in-Ok.m c.one_line-done.new.words c.one_line-done.new.table c.one_line-done.new.opens) ≡ turn t r.at (read (line_at a.text.now r.at)) w =
    sym (ap (λ (x : Result Counts Refusal). turned x c.one_line-done.new.words c.one_line-done.new.table c.one_line-done.new.opens) c.in-Ok.is)
    ∙ did-it a.rules.strict a.text.now c.in-Some.line.now r.text.now c.in-Some.at r.at (length l.words) (length a.words.now) (length l.table) (length a.table.now) w _ l.auto.words l.auto.table
    s.2.1 s.2.2 l.invariant.same_text c.one_line-done.ensures.opens_after in
    let m : Within c.in-Ok.m (length l.words) (length l.table) =
    subst (λ (x : Result Counts Refusal). IfOk x (λ m. Within m (length l.words) (length l.table))) c.in-Ok.is c.one_line-done.ensures.within_2 in
    let next : c.next.new.self.at ≡ after_line a.text.now r.at = s.1 ∙ ap (λ (t : List ℕ). after_line t r.at) l.invariant.same_text in
    record {
      same_text = ap (λ (b : Bor (List ℕ)). b.now) s.0 ∙ l.invariant.same_text;
      few = rw next (omega (arith, after-line a.text.now r.at h, l.invariant.few));
      within = (omega (arith, m.0, l.auto.words), m.1, omega (arith, m.2, l.auto.table), m.3);
      same = rw next (carried t r.at l.number w h _ q l.invariant.same);
    }

pub returns-clause-ended_with : goal.returns-clause-ended_with
returns-clause-ended_with c =
    let a = c.args in
    let l = c.loop-at in
    let r = c.loop-at.at-iterator in
    let t = task a.rules.strict a.text.now (length a.words.now) (length a.table.now) in
    let past : length a.text.now ≤ r.at = subst (λ (t : List ℕ). length t ≤ r.at) l.invariant.same_text c.in-None.ensures.steps.2 in
    let within = l.invariant.within in
    ended l.words l.table (outcome a.rules.strict a.text.now (length a.words.now) (length a.table.now)) l.n l.opens
    (lines_end t a.text.now r.at l.number (work_of l.n l.words l.table l.opens) past ∙ l.invariant.same)
    (omega (arith, within.0, l.auto.words), within.1, omega (arith, within.2, l.auto.table), within.3) (l.auto.opens ∙ c.requires)
