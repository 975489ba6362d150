-- M is the raised PC, where there is one. Assumes nothing.
use mathlib.Core.Path.{◌≡◌, sym, ap, ◌∙◌}
use native.Mathlib.Omega.{arith}
use Rattle.std.specs.Prelude.{Some}
use Rattle.base.specs.Addresses.{raised_pc}
use Rattle.instruction.specs.declared.Register.TheVariants.{PC}
use Rattle.machine.specs.Registers.{get}
use Rattle.machine.specs.Acts.{call}
use Rattle.machine.proofs.RegisterLaws.{put-apart}
use Rattle.machine.specs.Moves.{regs}
use Rattle.machine.proofs.flow.call.Goals as goal

pub returns : goal.returns
unfolding call
returns c = let f : c.raised_pc.result ≡ Some c.in_ok-n.n = grind arith in
    let e : raised_pc (get (regs c.args.s.now) PC) ≡ Some c.in_ok-n.n = ap raised_pc (sym c.get.ensures) ∙ sym c.raised_pc.ensures ∙ f in
    c.land.ensures ∙ rw (put-apart _ _ _, e)
