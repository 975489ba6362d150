-- The four parts are written one after the other.
use Rattle.std.proofs.Common.{◌≡◌, ◌∙◌, length, rules}
use Rattle.records.proofs.Parts.{encode-parts}
use Rattle.records.proofs.bytes.encode.Goals as goal

pub returns : goal.returns
returns c =
    let e : length c.args.r.registers ≡ 8 = search rules in
    c.put_old-2.ensures
    ∙ rw (c.put_old.ensures, c.put_words.ensures)
    (encode-parts c.args.bytes.now c.args.i c.args.r e)
