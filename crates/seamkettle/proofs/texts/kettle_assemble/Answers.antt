-- With an odd length 31, else what is assembled by way of the function's own words. Assumes nothing.
use mathlib.Core.Path.{◌≡◌, ◌∙◌}
use mathlib.Core.Bool.{not, true, false}
use lib.Dec.{eqb}
use borrow.Author.Rules.{rules}
use Rattle.wordbytes.specs.Words.{even}
use Rattle.wordbytes.proofs.Laws.{even-yes, even-no}
use Rattle.asm.specs.Assemble.{reported}
use Rattle.seamkettle.proofs.TextLaws.{odd_number, odd-words, even-number, even-words}
use Rattle.seamkettle.proofs.texts.kettle_assemble.Goals as goal

pub returns-then-words-ne0 : goal.returns-then-words-ne0
returns-then-words-ne0 c = let e : even c.args.words.now ≡ false = even-no c.args.words.now c.if-words-ne0.true in
    let strict = not (eqb c.args.strict 0) in
    record { value = c.bad_block.ensures ∙ odd_number strict c.args.text.now c.args.words.now e; words_after = odd-words strict c.args.text.now c.args.words.now e }

pub assemble_bytes-a-requires : goal.assemble_bytes-a-requires
assemble_bytes-a-requires c = record { own_len = search rules; words_value = even-yes c.args.words.now c.if-words-ne0.false }

pub of_assembly-requires : goal.of_assembly-requires
of_assembly-requires c = c.assemble_bytes-a.ensures.result_value_2

pub returns : goal.returns
returns c = let e : even c.args.words.now ≡ true = even-yes c.args.words.now c.if-words-ne0.false in
    let strict = not (eqb c.args.strict 0) in record { value = c.of_assembly.ensures ∙ even-number strict c.args.text.now c.args.words.now e (reported c.assemble_bytes-a.result) c.assemble_bytes-a.ensures.result_value; words_after = even-words strict c.args.text.now c.args.words.now e _ c.assemble_bytes-a.ensures.words_after }
