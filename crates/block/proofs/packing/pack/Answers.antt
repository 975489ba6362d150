-- The parts are written one after the other, and fill the block.
use Rattle.std.proofs.Common.{◌≡◌, ◌∙◌, Bool, true, false, refl, rules}
use Rattle.block.specs.Block.{flag}
use Rattle.block.proofs.Blocks.{packed-parts}
use Rattle.block.proofs.packing.pack.Goals as goal
use mir.Val.{bool_byte}

-- the byte of a bool is its flag
flag_byte : (t : Bool) → bool_byte t ≡ flag t
flag_byte true = refl
flag_byte false = refl

pub returns : goal.returns
returns c =
    c.put_words-2.ensures
    ∙ rw (c.put_entries-2.ensures, c.low-2.ensures, c.put_entries.ensures, c.low.ensures, c.from.ensures, flag_byte c.args.s.machine.mode.debug, c.put_words.ensures)
    (packed-parts c.args.s (record { registers = search rules; tables = record { regions = search rules; devices = search rules } }) c.args.block.now c.requires)
