-- What is before `from` stays, and zeros come after it; past the last entry there is nothing to clear. Assumes nothing.
use Rattle.std.proofs.Common.{arith}
use Rattle.table.proofs.ClearLaws.{clear-rest, clear-end}
use Rattle.table.proofs.entries.clear.Goals as goal

pub returns-then-from-table : goal.returns-then-from-table
returns-then-from-table c = clear-rest c.args.table.now c.args.from (omega arith) c.fill.new.self (c.fill.ensures.after (λ y same. same))

pub returns-else-from-table : goal.returns-else-from-table
returns-else-from-table c = clear-end c.args.table.now c.args.from c.if-from-table.false
