-- The device at entry i has the byte, or it is passed over; at the end linear memory has it. Assumes nothing.
use Rattle.std.proofs.Common.{refl, sym, ◌∙◌, arith}
use Rattle.map.specs.Devices.{used_devices}
use Rattle.map.specs.Places.{place}
use Rattle.map.specs.Entries.{device}
use Rattle.map.proofs.DeviceLaws.{covers-from}
use Rattle.map.proofs.Scans.{place-hit, place-miss, place_end}
use Rattle.map.proofs.places.place_of.Goals as goal

pub loop-number-init : goal.loop-number-init
unfolding place
loop-number-init c = (omega arith, refl)

pub overflow_sub-a : goal.overflow_sub-a
overflow_sub-a c = covers-from c.args.a _ (sym c.if-covers.ensures)

pub returns-then-covers : goal.returns-then-covers
unfolding used_devices
returns-then-covers c =
    c.in_bank.ensures ∙ sym
    (c.loop-number.invariant.1 ∙ place-hit c.args.m.device c.args.m.devices c.loop-number.number c.well_formed.0.1.1.1.1.1.0.1.0.1 c.loop-number.base c.args.mem c.args.dev c.args.a (device 0 0) (omega arith) (sym c.if-covers.ensures))

pub loop-number-preserved : goal.loop-number-preserved
unfolding used_devices
loop-number-preserved c = (
  omega arith,
  c.loop-number.invariant.1 ∙ place-miss c.args.m.device c.args.m.devices c.loop-number.number c.well_formed.0.1.1.1.1.1.0.1.0.1 c.loop-number.base c.args.mem c.args.dev c.args.a (device 0 0) (omega arith) (sym c.if-covers.ensures) c.size-base.result c.size-base.ensures.value,
)

pub returns : goal.returns
unfolding used_devices
returns c =
    c.in_linear.ensures ∙ sym
    (c.loop-number.invariant.1 ∙ place_end c.args.m.device c.args.m.devices c.loop-number.number c.well_formed.0.1.1.1.1.1.0.1.0.1 c.loop-number.base c.args.mem c.args.dev c.args.a (omega arith))
