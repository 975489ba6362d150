-- No block is 31; else the call below decides, of a range that comes to the same, and its state is packed.
use Rattle.std.proofs.Common.{◌≡◌, ◌∙◌, rules}
use Rattle.block.specs.Block.{unpacked}
use Rattle.host.specs.Host.{protect_number, protect_state}
use Rattle.seamkettle.proofs.RangeLaws.{protect-narrow}
use Rattle.seamkettle.proofs.CallLaws.{by_block, number-none, number-some, block_none, block-some}
use Rattle.seamkettle.proofs.tables.kettle_protect.Goals as goal

pub returns-clause-value : goal.returns-clause-value
returns-clause-value c =
    by_block c.args.block.now (λ e. number-none c.args.block.now e (c.on_block.ensures.none e).0 (λ s. protect_number s c.args.devices.now c.args.journal.now c.args.start c.args.len)) (λ e.
    let y = c.on_block.ensures.some e in
    let f : c.on_block.result ≡ protect_number (unpacked c.args.block.now) c.args.devices.now c.args.journal.now c.narrow-a.result.0 c.narrow-a.result.1 = search rules in
    number-some c.args.block.now e (λ s. protect_number s c.args.devices.now c.args.journal.now c.args.start c.args.len) (f ∙ (protect-narrow c.args.start c.args.len c.narrow-a.ensures.start_value c.narrow-a.ensures.len_value (unpacked c.args.block.now) c.args.devices.now c.args.journal.now).0))

pub returns-clause-block_after : goal.returns-clause-block_after
returns-clause-block_after c =
    by_block c.args.block.now (λ e. block_none c.args.block.now e (c.on_block.ensures.none e).1 (λ s. protect_state s c.args.devices.now c.args.journal.now c.args.start c.args.len)) (λ e.
    let y = c.on_block.ensures.some e in
    let f : y.0 ≡ protect_state (unpacked c.args.block.now) c.args.devices.now c.args.journal.now c.narrow-a.result.0 c.narrow-a.result.1 = search rules in
    block-some c.args.block.now e y.2 (λ s. protect_state s c.args.devices.now c.args.journal.now c.args.start c.args.len) (f ∙ (protect-narrow c.args.start c.args.len c.narrow-a.ensures.start_value c.narrow-a.ensures.len_value (unpacked c.args.block.now) c.args.devices.now c.args.journal.now).1))
