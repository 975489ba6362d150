-- The register itself, or another. Assumes nothing.
use mathlib.Core.Path.{◌≡◌, sym, ◌∙◌}
use lib.ListN.{get_or, length}
use Rattle.instruction.specs.Codes.{register_code}
use Rattle.machine.specs.Moves.{regs}
use Rattle.machine.specs.Registers.{get}
use Rattle.machine.proofs.RegisterLaws.{get-same, get-apart}
use borrow.Author.Rules.{rules}
use Rattle.machine.proofs.operands.get_after.Goals as goal

pub returns-then-from-i : goal.returns-then-from-i
returns-then-from-i c = let e : register_code c.args.d ≡ register_code c.args.r = sym c.from.ensures.0 ∙ c.if-from-i.true ∙ c.from-i.ensures.0 in
    let l : length c.args.s ≡ 8 = search rules in
    sym (get-same (regs c.args.s) c.args.d c.args.r c.args.v e l)

pub returns-else-from-i : goal.returns-else-from-i
unfolding get
returns-else-from-i c = let f : get_or c.args.s c.from-i.result 0 ≡ get (regs c.args.s) c.args.r = rw c.from-i.ensures.0 in
    f ∙ sym (get-apart (regs c.args.s) c.args.d c.args.r c.args.v (λ e. c.if-from-i.false (c.from.ensures.0 ∙ e ∙ sym c.from-i.ensures.0)))
