-- No block is 31; else the call below decides, and its state is packed.
use Rattle.std.proofs.Common.{◌≡◌, rules}
use Rattle.block.specs.Block.{unpacked}
use Rattle.host.specs.Host.{set_number, set_state}
use Rattle.seamkettle.proofs.CallLaws.{by_block, number-none, number-some, block_none, block-some}
use Rattle.seamkettle.proofs.tables.kettle_set_register.Goals as goal

pub returns-clause-value : goal.returns-clause-value
returns-clause-value c =
    by_block c.args.block.now (λ e. number-none c.args.block.now e (c.on_block.ensures.none e).0 (λ s. set_number s c.args.devices.now c.args.journal.now c.args.number)) (λ e.
    let y = c.on_block.ensures.some e in
    let f : c.on_block.result ≡ set_number (unpacked c.args.block.now) c.args.devices.now c.args.journal.now c.args.number = search rules in
    number-some c.args.block.now e (λ s. set_number s c.args.devices.now c.args.journal.now c.args.number) f)

pub returns-clause-block_after : goal.returns-clause-block_after
returns-clause-block_after c =
    by_block c.args.block.now (λ e. block_none c.args.block.now e (c.on_block.ensures.none e).1 (λ s. set_state s c.args.devices.now c.args.journal.now c.args.number c.args.value)) (λ e.
    let y = c.on_block.ensures.some e in
    let f : y.0 ≡ set_state (unpacked c.args.block.now) c.args.devices.now c.args.journal.now c.args.number c.args.value = search rules in
    block-some c.args.block.now e y.2 (λ s. set_state s c.args.devices.now c.args.journal.now c.args.number c.args.value) f)
