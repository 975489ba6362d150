-- What is before `from` stays, and zeros come after it; past the last word there is nothing to clear. Assumes nothing.
use Rattle.std.proofs.Common.{arith, sym}
use Rattle.asm.proofs.FillLaws.{clear-rest, clear-end}
use Rattle.asm.proofs.clearing.clear_words.Goals as goal

pub returns-then-from-words : goal.returns-then-from-words
returns-then-from-words c = clear-rest c.args.words.now c.args.from (omega arith) c.fill.new.self (c.fill.ensures.after (λ y same. same))

pub returns-else-from-words : goal.returns-else-from-words
returns-else-from-words c = sym (clear-end c.args.words.now c.args.from c.if-from-words.false)
