-- What was decided is made, and that is the word's store. Assumes nothing.
use Rattle.std.proofs.Common.{ap, ◌∙◌}
use Rattle.memory.specs.Bytes.{lent}
use Rattle.memory.specs.Words.{Decided, word_decision, made}
use Rattle.memory.proofs.Decisions.{decision-makes}
use Rattle.memory.proofs.words.store_word.Goals as goal

pub returns : goal.returns
unfolding word_decision
returns c =
    let d = c.decide_word-d.ensures in
    let bytes = lent c.args.mem.now c.args.dev.now in
    record {
      result_value = ap (λ (x : Decided). x.outcome) d;
      dev_after = c.make.ensures ∙ ap (λ (x : Decided). made x.changes bytes) d ∙ decision-makes c.args.m bytes c.args.a c.args.w;
    }
