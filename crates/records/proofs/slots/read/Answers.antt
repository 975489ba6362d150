-- The part that is decoded is the slot, and a slot of the room lies within the journal.
use Rattle.std.proofs.Common.{◌∙◌, rules}
use Rattle.records.proofs.Laws.{slot-within}
use Rattle.records.proofs.Parts.{part-slot}
use Rattle.records.proofs.slots.read.Goals as goal

pub slice_bounds-decode-end : goal.slice_bounds-decode-end
slice_bounds-decode-end c = search (rules, slot-within _ _ c.requires)

pub returns : goal.returns
returns c = c.decode.ensures ∙ part-slot _ _
