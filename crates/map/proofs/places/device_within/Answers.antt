-- A hit, a miss and the end of the scan, at entry i. Assumes nothing.
use Rattle.std.proofs.Common.{sym, ◌∙◌, arith}
use Rattle.map.specs.Devices.{used_devices, covers_either}
use Rattle.map.specs.Entries.{device}
use Rattle.map.proofs.Scans.{any-hit, any-miss, any-end}
use Rattle.map.proofs.places.device_within.Goals as goal

pub returns-then-covers_either : goal.returns-then-covers_either
unfolding used_devices
returns-then-covers_either c =
    sym
    (c.loop-number.invariant ∙ any-hit c.args.m.device c.args.m.devices c.loop-number.number c.well_formed.0.1.1.1.1.1.0.1.0.1 (covers_either c.args.a c.args.b) (device 0 0) (omega arith) (sym c.if-covers_either.ensures))

pub loop-number-preserved : goal.loop-number-preserved
unfolding used_devices
loop-number-preserved c =
    c.loop-number.invariant ∙ any-miss c.args.m.device c.args.m.devices c.loop-number.number c.well_formed.0.1.1.1.1.1.0.1.0.1 (covers_either c.args.a c.args.b) (device 0 0) (omega arith) (sym c.if-covers_either.ensures)

pub returns : goal.returns
unfolding used_devices
returns c = sym (c.loop-number.invariant ∙ any-end c.args.m.device c.args.m.devices c.loop-number.number c.well_formed.0.1.1.1.1.1.0.1.0.1 (covers_either c.args.a c.args.b) (omega arith))
