-- Of a word that says nothing, nothing is written. Assumes nothing.
use mathlib.Core.Path.{◌≡◌, refl, sym, ap, ◌∙◌}
use Rattle.base.specs.Told.{no, told}
use Rattle.base.specs.Numbers.{number_of}
use Rattle.instruction.specs.Decode.{decode}
use Rattle.pen.proofs.PenLaws.{none}
use Rattle.lister.proofs.decoding.put_word_text.Goals as goal

pub returns-in_default : goal.returns-in_default
returns-in_default c = let e : decode c.args.w ≡ no (number_of c.in_default.field-0) = sym c.decode.ensures ∙ ap told c.in_default.is in
    rw e (refl, sym (none _))
