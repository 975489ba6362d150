-- Each word of the array is the one at its place.
use Rattle.std.proofs.Common.{◌+◌, ◌*◌, ◌∙◌, rules}
use Rattle.wordbytes.specs.Words.{word_at}
use Rattle.wordbytes.proofs.Arrays.{made}
use Rattle.wordbytes.proofs.Parts.{words-row}
use Rattle.wordbytes.proofs.places.words_at.Goals as goal

pub returns : goal.returns
returns g c =
    let b = c.args.bytes.now in
    let i = c.args.i in
    made _ (λ k. word_at b (i + 2 * k)) _ (λ k y q called. search rules) c.from_fn.result g.row.N 0 c.from_fn.ensures.items
    ∙ words-row b i g.row.N
