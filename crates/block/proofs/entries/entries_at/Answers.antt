-- Each entry of the array is the one at its place.
use Rattle.std.proofs.Common.{◌+◌, ◌*◌, ◌∙◌, rules}
use Rattle.wordbytes.specs.Words.{word_at}
use Rattle.wordbytes.proofs.Arrays.{made}
use Rattle.block.proofs.Tables.{table-row}
use Rattle.block.proofs.entries.entries_at.Goals as goal

pub returns : goal.returns
returns g c =
    let of = g.E.Entry.of in
    let b = c.args.block.now in
    let i = c.args.i in
    made _ (λ k. of (word_at b (i + 4 * k)) (word_at b (i + 4 * k + 2))) _ (λ k y q called. search rules) c.from_fn.result g.row.N (of 0 0) c.from_fn.ensures.items
    ∙ table-row of b i g.row.N
