-- Each byte and each number stands where the definition takes it from.
use Rattle.std.proofs.Common.{sym}
use Rattle.records.proofs.Parts.{decode-flat}
use Rattle.records.proofs.bytes.decode.Goals as goal

pub returns : goal.returns
returns c =
    rw (c.words_at.ensures, c.word_at.ensures, c.word_at-2.ensures) (sym (decode-flat c.args.bytes.now))
