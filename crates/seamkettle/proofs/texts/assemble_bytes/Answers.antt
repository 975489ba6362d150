-- As many words are lent as are wanted, 32,767 at most, and that is room enough. Assumes nothing.
use mathlib.Core.Path.{sym}
use Rattle.asm.specs.Assemble.{reported}
use Rattle.seamkettle.proofs.TextLaws.{own-lent, own-length, own-fits, assembled-answer, assembled-fits, assembled-bytes}
use Rattle.seamkettle.proofs.texts.assemble_bytes.Goals as goal

pub slice_bounds-assemble_words-end-2 : goal.slice_bounds-assemble_words-end-2
slice_bounds-assemble_words-end-2 c = let strict = c.args.rules.strict in
    let text = c.args.text.now in
    let words = c.args.words.now in
    let own = c.args.own.now in
    sym (own-lent strict text words own c.own_room-n.result c.own_room-n.ensures c.requires.own_len)

pub slice_bounds-write_words-end-2 : goal.slice_bounds-write_words-end-2
slice_bounds-write_words-end-2 c = let strict = c.args.rules.strict in
    let text = c.args.text.now in
    let words = c.args.words.now in
    let own = c.args.own.now in
    sym (own-length strict text words own c.own_room-n.result c.own_room-n.ensures c.requires.own_len c.assemble_words-a.new.words c.assemble_words-a.ensures.words_after)

pub write_words-requires : goal.write_words-requires
write_words-requires c = let strict = c.args.rules.strict in
    let text = c.args.text.now in
    let words = c.args.words.now in
    let own = c.args.own.now in
    own-fits strict text words own c.own_room-n.result c.own_room-n.ensures c.requires.own_len c.assemble_words-a.new.words c.assemble_words-a.ensures.words_after

pub returns : goal.returns
returns c = let strict = c.args.rules.strict in
    let text = c.args.text.now in
    let words = c.args.words.now in
    let own = c.args.own.now in
    let p = reported c.assemble_words-a.result in record {
      result_value = assembled-answer strict text words own c.own_room-n.result c.own_room-n.ensures c.requires.own_len p c.assemble_words-a.ensures.result_value;
      result_value_2 = assembled-fits strict text words own c.own_room-n.result c.own_room-n.ensures c.requires.own_len p c.assemble_words-a.ensures.result_value;
      words_after = assembled-bytes strict text words own c.own_room-n.result c.own_room-n.ensures c.requires.own_len c.assemble_words-a.new.words c.assemble_words-a.ensures.words_after c.requires.words_value
          c.write_words.new.bytes c.clear_bytes.new.bytes c.write_words.ensures c.clear_bytes.ensures;
    }
