-- What a writer does with the pen that it is lent: its bytes are written, into the same buffer.
use Rattle.std.specs.Prelude.{List, ℕ, ◌≡◌}
use Rattle.pen.specs.Pen as Pen
use Rattle.pen.specs.Pen.{pen, wrote}
use Rattle.pen.specs.declared.writing.Pen.{Pen}

-- the buffer as it is, and the position
abbrev pub page : Pen → Pen.Pen
page p = pen p.out.now p.at

abbrev pub Writes : Pen → Pen → List ℕ → Type 0
Writes p q bytes = (q.out.ghost_name ≡ p.out.ghost_name) × (page q ≡ wrote (page p) bytes)
