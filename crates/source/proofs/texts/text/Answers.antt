-- Each test is the definition's, in its order; the first writing counts the text's bytes, and the second, for which there is room,
-- stores them. Assumes nothing.
use mathlib.Core.Path.{sym, ◌∙◌}
use mathlib.Core.List.{[], ◌∷◌}
use Rattle.source.proofs.AnswerLaws.{ends-16, ends-33, no_room, room}
use Rattle.source.proofs.AskLaws.{lowest-some, lowest-none}
use Rattle.source.proofs.texts.text.Goals as goal

pub returns-then-words-gt32767 : goal.returns-then-words-gt32767
returns-then-words-gt32767 c = let told = ends-16 c.args.words.now c.args.out.now c.if-words-gt32767.true in rw c.from.ensures (record { result_value = told.0; out_after = told.1 })

pub returns-in-Some : goal.returns-in-Some
returns-in-Some c =
    let index = lowest-some c.args.words.now c.in-Some.index (sym c.lowest.ensures ∙ c.in-Some.is) in
    let told = ends-33 c.args.words.now c.args.out.now c.if-words-gt32767.false index.0 index.1 in
    record { result_value = told.0; out_after = told.1 }

pub returns-then-out-n : goal.returns-then-out-n
returns-then-out-n c =
    let all = lowest-none c.args.words.now (sym c.lowest.ensures ∙ c.in_default.is) in
    let told = no_room c.args.words.now c.args.out.now c.if-words-gt32767.false all c.mark_all.new.used c.mark_all.ensures (0 ∷ []) c.written-n.ensures c.if-out-n.true in
    rw c.from-then-out-n.ensures (record { result_value = told.0; out_after = told.1 })

pub returns : goal.returns
returns c =
    let all = lowest-none c.args.words.now (sym c.lowest.ensures ∙ c.in_default.is) in
    let told = room c.args.words.now c.args.out.now c.if-words-gt32767.false all c.mark_all.new.used c.mark_all.ensures (0 ∷ []) c.written-n.ensures c.if-out-n.false c.written.ensures in
    record { result_value = told.0; out_after = told.1 }
