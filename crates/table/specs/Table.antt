-- The label table as a list of entries.
use Rattle.std.specs.Prelude.{ℕ, ◌-◌, List, ◌++◌, length, replicate}
use Rattle.labels.specs.declared.Label.{Label}
use Rattle.labels.specs.Labels.{no_label}

-- the table afterwards: these labels, and zeros in all of its rest
unfoldable pub filled : ℕ → List Label → List Label
filled room labels = labels ++ replicate (room - length labels) no_label
