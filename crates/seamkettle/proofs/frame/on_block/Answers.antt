use Rattle.std.proofs.Common.{◌∙◌, sym}
use Rattle.block.proofs.Laws.{block-length}
use Rattle.seamkettle.proofs.frame.on_block.Goals as goal

pub unpack-s-requires : goal.unpack-s-requires
unpack-s-requires g c = block-length c.args.block.now (sym c.is_block.ensures ∙ c.if-not-is_block.false)

pub pack-requires : goal.pack-requires
pack-requires g c = block-length c.args.block.now (sym c.is_block.ensures ∙ c.if-not-is_block.false)
