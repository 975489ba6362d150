-- A hit, a miss and the end of the scan, at entry i. Assumes nothing.
use Rattle.std.proofs.Common.{refl, sym, ◌∙◌, arith}
use Rattle.map.specs.Regions.{used_regions, protected, region_covers}
use Rattle.map.specs.Entries.{region}
use Rattle.map.proofs.Scans.{any-hit, any-miss, any-end}
use Rattle.map.proofs.regions.is_protected.Goals as goal

pub loop-i-init : goal.loop-i-init
unfolding protected
loop-i-init c = refl

pub returns-then-covers : goal.returns-then-covers
unfolding used_regions
returns-then-covers c =
    sym
    (c.loop-i.invariant ∙ any-hit c.args.m.region c.args.m.regions c.loop-i.i c.well_formed.0.1.1.1.0.1.0.1 (region_covers c.args.a) (region 0 0) (omega arith) (sym c.if-covers.ensures))

pub loop-i-preserved : goal.loop-i-preserved
unfolding used_regions
loop-i-preserved c =
    c.loop-i.invariant ∙ any-miss c.args.m.region c.args.m.regions c.loop-i.i c.well_formed.0.1.1.1.0.1.0.1 (region_covers c.args.a) (region 0 0) (omega arith) (sym c.if-covers.ensures)

pub returns : goal.returns
unfolding used_regions
returns c = sym (c.loop-i.invariant ∙ any-end c.args.m.region c.args.m.regions c.loop-i.i c.well_formed.0.1.1.1.0.1.0.1 (region_covers c.args.a) (omega arith))
