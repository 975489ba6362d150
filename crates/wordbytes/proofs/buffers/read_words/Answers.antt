use Rattle.std.proofs.Common.{◌<◌, length, refl, arith}
use Rattle.wordbytes.specs.Words.{words_from}
use Rattle.wordbytes.proofs.Parts.{read_next}
use Rattle.wordbytes.proofs.buffers.read_words.Goals as goal

pub loop-n-init : goal.loop-n-init
unfolding words_from
loop-n-init c = refl

pub loop-n-preserved : goal.loop-n-preserved
loop-n-preserved c =
    let h = c.loop-n in
    let l : h.n < length h.words = omega arith in
    rw c.word_at.ensures (read_next c.args.bytes.now h.words h.n l h.invariant)
