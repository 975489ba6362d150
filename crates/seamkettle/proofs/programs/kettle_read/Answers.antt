-- 31, or what the block's state reads out; a range that was narrowed reads as it did. Assumes nothing.
use mathlib.Core.Path.{◌≡◌, sym, ◌∙◌}
use mathlib.Core.Bool.{true, false}
use lib.ListN.{length}
use Rattle.memory.specs.Bytes.{lent}
use Rattle.memory.specs.Blocks.{counted}
use Rattle.block.specs.Block.{is_block}
use Rattle.seamkettle.proofs.LoadLaws.{read-bad, buffer-bad, read_fits, read-good, buffer-good}
use Rattle.block.proofs.Laws.{block-length}
use Rattle.seamkettle.proofs.programs.kettle_read.Goals as goal

pub returns-then-not-is_block : goal.returns-then-not-is_block
returns-then-not-is_block c = let b = lent c.args.memory.now c.args.devices.now in
    let j = c.args.journal.now in
    let e : is_block c.args.block.now ≡ false = sym c.is_block.ensures ∙ c.if-not-is_block.true in
    let block = c.args.block.now in record { value = c.bad_block.ensures ∙ read-bad block b j c.args.start c.args.size e (length c.args.buffer.now); buffer_after = buffer-bad block b j c.args.start c.args.size e c.args.buffer.now }

pub unpack-s-requires : goal.unpack-s-requires
unpack-s-requires c = let e : is_block c.args.block.now ≡ true = sym c.is_block.ensures ∙ c.if-not-is_block.false in
    block-length c.args.block.now e

pub of_count-requires : goal.of_count-requires
of_count-requires c = let b = lent c.args.memory.now c.args.devices.now in
    let j = c.args.journal.now in
    read_fits c.unpack-s.result b j c.args.start c.args.size c.narrow-a.result.0 c.narrow-a.result.1 c.narrow-a.ensures.start_value c.narrow-a.ensures.len_value
    (length c.args.buffer.now) (counted c.read_out-r.result) c.read_out-r.ensures.result_value

pub returns : goal.returns
returns c = let b = lent c.args.memory.now c.args.devices.now in
    let j = c.args.journal.now in
    let block = c.args.block.now in
    let e : is_block block ≡ true = sym c.is_block.ensures ∙ c.if-not-is_block.false in record {
      value = c.of_count.ensures.read
          ∙ read-good c.unpack-s.result b j c.args.start c.args.size c.narrow-a.result.0 c.narrow-a.result.1 c.narrow-a.ensures.start_value c.narrow-a.ensures.len_value
          block e c.unpack-s.ensures (length c.args.buffer.now) (counted c.read_out-r.result) c.read_out-r.ensures.result_value;
      buffer_after = buffer-good c.unpack-s.result b j c.args.start c.args.size c.narrow-a.result.0 c.narrow-a.result.1 c.narrow-a.ensures.start_value c.narrow-a.ensures.len_value
          block e c.unpack-s.ensures c.args.buffer.now c.read_out-r.new.buffer c.read_out-r.ensures.buffer_after;
    }
