-- What is before `from` stays, and zeros come after it; past the last byte there is nothing to clear.
use Rattle.std.proofs.Common.{sym, arith}
use Rattle.asm.proofs.FillLaws.{clear-end, clear-rest}
use Rattle.seamkettle.proofs.texts.clear_bytes.Goals as goal

pub returns-then-from-bytes : goal.returns-then-from-bytes
returns-then-from-bytes c = clear-rest c.args.bytes.now c.args.from (omega arith) c.fill.new.self (c.fill.ensures.after (λ y same. same))

pub returns-else-from-bytes : goal.returns-else-from-bytes
returns-else-from-bytes c = sym (clear-end c.args.bytes.now c.args.from c.if-from-bytes.false)
