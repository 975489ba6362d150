-- The sum so far and the sizes of the devices left are the whole. Assumes nothing.
use Rattle.std.proofs.Common.{◌≡◌, ◌+◌, ◌*◌, ◌≤◌, drop}
use Rattle.map.specs.Devices.{total}
use Rattle.map.proofs.devices.device_bytes.Given as goal

abbrev pub invariant-loop-d : goal.invariant-loop-d
invariant-loop-d l = (l.sum ≤ 65535 * l.d-index) × (total l.d-items ≡ l.sum + total (drop l.d-index l.d-items))
