-- No block is 31; else the call below decides, and its state is packed. Assumes nothing.
use mathlib.Core.Path.{◌≡◌, sym, ◌∙◌}
use mathlib.Core.Bool.{true, false}
use Rattle.memory.specs.Bytes.{lent}
use Rattle.block.specs.Block.{is_block}
use Rattle.block.proofs.Laws.{block-length}
use Rattle.seamkettle.proofs.CallLaws.{stepping-back-none, stepping-back-some}
use Rattle.seamkettle.proofs.steps.kettle_step_back.Goals as goal

pub returns-then-not-is_block : goal.returns-then-not-is_block
returns-then-not-is_block c = let e : is_block c.args.block.now ≡ false = sym c.is_block.ensures ∙ c.if-not-is_block.true in
    stepping-back-none c.args.block.now e (lent c.args.memory.now c.args.devices.now) c.args.journal.now c.bad_block.ensures

pub unpack-s-requires : goal.unpack-s-requires
unpack-s-requires c = block-length c.args.block.now (sym c.is_block.ensures ∙ c.if-not-is_block.false)

pub pack-requires : goal.pack-requires
pack-requires c = block-length c.args.block.now (sym c.is_block.ensures ∙ c.if-not-is_block.false)

pub returns : goal.returns
returns c = let e : is_block c.args.block.now ≡ true = sym c.is_block.ensures ∙ c.if-not-is_block.false in
    stepping-back-some c.args.block.now e c.unpack-s.ensures c.pack.ensures
    (lent c.args.memory.now c.args.devices.now) c.args.journal.now c.step_back-answer.ensures c.of_answer.ensures
