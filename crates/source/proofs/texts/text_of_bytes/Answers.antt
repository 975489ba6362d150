-- With half a word 31, else the text by way of the function's own words. Assumes nothing.
use Rattle.source.proofs.ByteLaws.{ends-31}
use Rattle.source.proofs.texts.text_of_bytes.Goals as goal

pub returns-then-bytes-ne0 : goal.returns-then-bytes-ne0
returns-then-bytes-ne0 c = let told = ends-31 c.args.bytes.now c.args.out.now c.if-bytes-ne0.true in rw c.from.ensures (record { result_value = told.0; out_after = told.1.0; small = told.1.1 })
