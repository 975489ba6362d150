-- What was planned is what the step's definition has, recorded or not; and a step keeps a valid state valid. Assumes nothing.
use mathlib.Core.Path.{◌≡◌, ap, ◌∙◌}
use native.Mathlib.Omega.{arith}
use borrow.Author.Rules.{rules}
use Prim.Native.Nat.{◌<◌, ◌≤◌, max}
use Rattle.std.specs.Prelude.{Ok}
use Rattle.base.specs.Numbers.{number_of}
use Rattle.base.specs.Told.{Told, no, told}
use Rattle.memory.specs.Bytes.{lent}
use Rattle.map.specs.declared.Map.{Map}
use Rattle.machine.specs.Moves.{moved_by}
use Rattle.machine.specs.Plan.{plan}
use Rattle.machine.specs.States.{machine}
use Rattle.machine.specs.declared.StepAnswer.{StepAnswer}
use Rattle.journal.specs.States.{whole}
use Rattle.journal.specs.Step.{result_of}
use Rattle.journal.proofs.StateLaws.{valid-held, valid-next}
use Rattle.journal.proofs.TakenLaws.{plan_of, left-refused, left-stopped, accepted-other, turned}
use Rattle.journal.proofs.steps.turn.Goals as goal

pub returns-in_err-m-clause-journal_after : goal.returns-in_err-m-clause-journal_after
returns-in_err-m-clause-journal_after c =
    let w = whole c.args.s.now (lent c.args.mem.now c.args.dev.now) c.args.journal.now in
    let r = c.in_err-m.field-0.0 in
    let q : told c.from_residual.result ≡ no (number_of r) = search rules in
    ap (λ (a : Told StepAnswer). result_of a w) q ∙ left-refused w c.requires.journal_value (number_of r) (c.in_err-m.ensures ∙ ap (λ (x : Map). plan (machine c.args.s.now.machine.registers c.args.s.now.machine.mode x) w.bytes) c.requires.map_value)

pub returns-in-Stop-clause-journal_after : goal.returns-in-Stop-clause-journal_after
returns-in-Stop-clause-journal_after c = let w = whole c.args.s.now (lent c.args.mem.now c.args.dev.now) c.args.journal.now in
    left-stopped w c.requires.journal_value c.in_ok-m.m (c.in_ok-m.ensures ∙ ap (λ (x : Map). plan (machine c.args.s.now.machine.registers c.args.s.now.machine.mode x) w.bytes) c.requires.map_value) c.in-Stop.is

pub note-requires : goal.note-requires
note-requires c = let s = c.args.s.now in
    let v = c.requires.journal_value in
    let d = c.requires.d_value in
    let h : s.held ≤ c.args.d = omega (arith, valid-held s c.args.dev.now c.args.journal.now v, d) in
    let n : s.next < max 1 c.args.d = omega (arith, valid-next s c.args.dev.now c.args.journal.now v, d) in
    record { d_value = d; held_le_d = (h, n) }

pub returns : goal.returns
returns c = let w = whole c.args.s.now (lent c.args.mem.now c.args.dev.now) c.args.journal.now in
    let e : moved_by c.args.s.now.machine.registers (Ok c.in_ok-m.m) ≡ plan_of w = c.in_ok-m.ensures ∙ ap (λ (x : Map). plan (machine c.args.s.now.machine.registers c.args.s.now.machine.mode x) w.bytes) c.requires.map_value in
    let t = accepted-other c.in_ok-m.m.answer c.in_default.not-Stop in
    let k = turned w c.requires.journal_value c.in_ok-m.m e t c.args.d c.requires.d_value c.note.new.s c.note.ensures.state_after c.store.new.s c.store.ensures
    (lent c.make.new.mem c.make.new.dev) c.make.ensures c.note.new.journal c.note.ensures.journal_after c.note.auto.journal in
    record { journal_after = k.comes; stays_valid = k.stays }
