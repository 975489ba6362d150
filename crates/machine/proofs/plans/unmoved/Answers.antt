-- PC gets what it has, twice. Assumes nothing.
use mathlib.Core.Path.{◌≡◌, ap, ◌∙◌}
use Rattle.base.specs.Told.{is}
use Rattle.instruction.specs.declared.Register.TheVariants.{PC}
use Rattle.memory.specs.declared.Changes.TheVariants.{Nothing}
use Rattle.machine.proofs.RegisterLaws.{put-get}
use Rattle.machine.specs.declared.Registers.{Registers}
use Rattle.machine.specs.Moves.{regs}
use Rattle.machine.specs.Plan.{plans}
use Rattle.machine.specs.Registers.{put}
use Rattle.machine.proofs.plans.unmoved.Goals as goal

pub returns : goal.returns
returns c = let s = regs c.args.s.now in
    let pc = c.get-pc.result in
    let own : put s PC pc ≡ s = ap (put s PC) c.get-pc.ensures ∙ put-get s PC in
    ap (λ (t : Registers). plans (is c.args.answer) t Nothing) (ap (λ (t : Registers). put t PC pc) own ∙ own)
