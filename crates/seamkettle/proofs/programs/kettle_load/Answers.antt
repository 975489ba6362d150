-- 31 but for a block and bytes of whole words, whose words are loaded into the block's state. Assumes nothing.
use mathlib.Core.Path.{◌≡◌, sym, ◌∙◌}
use mathlib.Core.Bool.{true, false}
use Rattle.memory.specs.Bytes.{lent}
use Rattle.block.specs.Block.{is_block}
use Rattle.seamkettle.proofs.LoadLaws.{load-bad, load-odd, load-good, unnumbered}
use Rattle.block.proofs.Laws.{block-length}
use Rattle.wordbytes.proofs.Laws.{even-yes, even-no}
use Rattle.seamkettle.proofs.programs.kettle_load.Goals as goal

pub returns-then-not-is_block : goal.returns-then-not-is_block
returns-then-not-is_block c = let words = c.args.words.now in
    let block = c.args.block.now in
    let b = lent c.args.memory.now c.args.devices.now in
    let j = c.args.journal.now in
    let e : is_block block ≡ false = sym c.is_block.ensures ∙ c.if-not-is_block.true in
    unnumbered c.bad_block.ensures (load-bad words block b j e)

pub returns-then-words-ne0 : goal.returns-then-words-ne0
returns-then-words-ne0 c = let words = c.args.words.now in
    let block = c.args.block.now in
    let b = lent c.args.memory.now c.args.devices.now in
    let j = c.args.journal.now in
    let e : is_block block ≡ true = sym c.is_block.ensures ∙ c.if-not-is_block.false in
    unnumbered c.bad_block-then-words-ne0.ensures (load-odd words block b j e (even-no words c.if-words-ne0.true))

pub unpack-s-requires : goal.unpack-s-requires
unpack-s-requires c = let block = c.args.block.now in
    let e : is_block block ≡ true = sym c.is_block.ensures ∙ c.if-not-is_block.false in
    block-length block e

pub pack-requires : goal.pack-requires
pack-requires c = let block = c.args.block.now in
    let e : is_block block ≡ true = sym c.is_block.ensures ∙ c.if-not-is_block.false in
    block-length block e

pub returns : goal.returns
returns c = let words = c.args.words.now in
    let block = c.args.block.now in
    let b = lent c.args.memory.now c.args.devices.now in
    let j = c.args.journal.now in
    let e : is_block block ≡ true = sym c.is_block.ensures ∙ c.if-not-is_block.false in
    load-good words block b j e (even-yes words c.if-words-ne0.false) c.unpack-s.result c.load_words-answer.new.s
    c.of_answer.result c.pack.new.block (lent c.load_words-answer.new.memory c.load_words-answer.new.devices) c.unpack-s.ensures
    (c.of_answer.ensures ∙ c.load_words-answer.ensures.answer_value) c.load_words-answer.ensures.state_value c.pack.ensures c.load_words-answer.ensures.devices_after
