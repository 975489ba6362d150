-- Where none has the name none is found; else the entry at its place. Assumes nothing.
use Rattle.std.proofs.Common.{take, ◌∙◌}
use Rattle.table.proofs.TableLaws.{place_none, place_some}
use Rattle.table.proofs.entries.find.Goals as goal

pub returns-in_err-index : goal.returns-in_err-index
returns-in_err-index c = c.from_residual.ensures ∙ place_none c.args.text.now c.args.name.now (take c.args.count c.args.table.now) c.in_err-index.ensures

pub returns : goal.returns
returns c = place_some c.args.text.now c.args.name.now c.args.table.now c.args.count c.in_ok-index.index c.in_ok-index.ensures
