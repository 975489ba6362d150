-- Too many words are 16, else it is the text of the words that were read into the first places. Assumes nothing.
use mathlib.Core.Path.{sym}
use native.Mathlib.Omega.{arith}
use Rattle.wordbytes.proofs.Laws.{lent-part, lent_fits, read-part}
use Rattle.source.proofs.ByteLaws.{ends-long, ends_read}
use Rattle.source.proofs.texts.read_text.Goals as goal

pub returns-then-n-gt32767 : goal.returns-then-n-gt32767
returns-then-n-gt32767 c = let told = ends-long c.args.bytes.now c.args.out.now c.requires.bytes_len c.if-n-gt32767.true in rw c.from.ensures (record { result_value = told.0; out_after = told.1.0; small = told.1.1 })

pub slice_bounds-read_words-end-2 : goal.slice_bounds-read_words-end-2
slice_bounds-read_words-end-2 c = sym (lent-part c.args.bytes.now c.args.own.now (omega (arith, c.if-n-gt32767.false, c.requires.own_len)))

pub read_words-requires : goal.read_words-requires
read_words-requires c = lent_fits c.args.bytes.now c.args.own.now (omega (arith, c.if-n-gt32767.false, c.requires.own_len))

pub slice_bounds-text-end-2 : goal.slice_bounds-text-end-2
slice_bounds-text-end-2 c = sym (read-part c.args.bytes.now c.args.own.now (omega (arith, c.if-n-gt32767.false, c.requires.own_len)) c.read_words.new.words c.read_words.ensures)

pub returns : goal.returns
returns c = let told = ends_read c.args.bytes.now c.args.out.now c.requires.bytes_len c.args.own.now (omega (arith, c.if-n-gt32767.false, c.requires.own_len)) c.read_words.new.words c.read_words.ensures _ _ c.text.ensures.result_value c.text.ensures.out_after in record { result_value = told.0; out_after = told.1.0; small = told.1.1 }
