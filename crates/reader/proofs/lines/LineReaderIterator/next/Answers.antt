-- The line ends where its end is found, and the next one starts right after it. Assumes nothing.
use Rattle.std.proofs.Common.{refl}
use Rattle.reader.proofs.LineLaws.{after-some, after_none, line-part}
use Rattle.reader.proofs.lines.LineReaderIterator.next.Goals as goal

pub returns-then-self-at-clause-steps : goal.returns-then-self-at-clause-steps
returns-then-self-at-clause-steps c =
    let r = c.args.self.now in (refl, after_none r.text.now r.at c.if-self-at.true, c.if-self-at.true)

pub returns-clause-steps : goal.returns-clause-steps
returns-clause-steps c =
    let r = c.args.self.now in
    let e = c.line_end-end.result in
    (refl, after-some r.text.now r.at e c.if-self-at.false c.line_end-end.ensures.0, (c.if-self-at.false, refl, line-part r.text.now r.at e c.line_end-end.ensures.0))
