-- A text that is too long is 19 at line 0; of another the assembler's clauses tell the outcome. Assumes nothing.
use mathlib.Core.Path.{refl}
use Rattle.lister.proofs.ShownLaws.{tells-19, tells}
use Rattle.lister.proofs.listing.assembled.Goals as goal

pub returns-then-text-gt65536 : goal.returns-then-text-gt65536
returns-then-text-gt65536 c = tells-19 c.args.text.now c.if-text-gt65536.true

pub returns : goal.returns
returns c = tells c.args.text.now c.assemble_words.result _ _ c.if-text-gt65536.false c.requires refl c.assemble_words.ensures.result_value c.assemble_words.ensures.words_after
