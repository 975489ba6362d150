-- The entry after the last is put where fewer than 512 are open. Assumes nothing.
use Rattle.asm.proofs.PatchLaws.{add-open-full, add-open-next}
use Rattle.asm.proofs.patching.add_open.Goals as goal

pub returns-then-count-lt512-clause-opens_after : goal.returns-then-count-lt512-clause-opens_after
returns-then-count-lt512-clause-opens_after c = add-open-next c.args.opens.now c.args.count c.args.o c.requires.in_bounds c.if-count-lt512.true

pub returns-else-count-lt512-clause-opens_after : goal.returns-else-count-lt512-clause-opens_after
returns-else-count-lt512-clause-opens_after c = add-open-full c.args.opens.now c.args.count c.args.o c.requires.in_bounds c.requires.count_bound c.if-count-lt512.false
