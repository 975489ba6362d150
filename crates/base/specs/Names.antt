-- A name that stands in its table.
use Rattle.std.specs.Prelude.{ℕ, List, take}
use Rattle.base.specs.declared.names.Name.{Name}

-- as many of its bytes as it says
abbrev pub letters : Name → List ℕ
letters n = take n.0 n.1
