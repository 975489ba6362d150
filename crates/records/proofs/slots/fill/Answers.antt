-- A slot of the room lies within the journal, and the record's bytes are written over it.
use Rattle.std.proofs.Common.{◌≡◌, ◌∙◌, length, rules}
use Rattle.records.proofs.Laws.{slot-within}
use Rattle.records.proofs.Parts.{sets-filled}
use Rattle.records.proofs.slots.fill.Goals as goal

pub encode-requires : goal.encode-requires
encode-requires c = slot-within _ _ c.requires

pub returns : goal.returns
returns c =
    let e : length c.args.r.registers ≡ 8 = search rules in
    c.encode.ensures ∙ sets-filled c.args.journal.now c.args.k c.args.r e c.requires
