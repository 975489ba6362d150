use Rattle.std.proofs.Common.{refl, ◌∙◌}
use Rattle.wordbytes.specs.Words.{bytes_of}
use Rattle.wordbytes.proofs.Parts.{word_next}
use Rattle.wordbytes.proofs.places.put_words.Goals as goal

pub loop-n-init : goal.loop-n-init
unfolding bytes_of
loop-n-init c = refl

pub loop-n-preserved : goal.loop-n-preserved
loop-n-preserved c =
    c.put_word.ensures
    ∙ rw c.loop-n.invariant (word_next c.args.bytes.now c.args.i c.args.words.now c.loop-n.n c.loop-n-test.true)
