-- The first writing counts the listing's bytes, and the second, for which there is room, stores them. Assumes nothing.
use mathlib.Core.Path.{◌≡◌}
use mathlib.Core.List.{[], ◌∷◌}
use native.Mathlib.Omega.{arith}
use lib.ListN.{length}
use Rattle.lister.proofs.ShownLaws.{words-within}
use Rattle.lister.proofs.AnswerLaws.{no_room, room}
use borrow.Author.Rules.{rules}
use Rattle.lister.proofs.listing.list.Goals as goal

pub shown-n-requires : goal.shown-n-requires
shown-n-requires c = record { a_in_bounds = words-within c.args.text.now c.assembled-a.new.words c.assembled-a.result c.assembled-a.ensures; words_len_bound = omega arith }

pub returns-then-out-n : goal.returns-then-out-n
returns-then-out-n c =
    let full : length c.assembled-a.new.words ≡ 32767 = search rules in
    let told = no_room c.args.text.now c.assembled-a.new.words c.assembled-a.result c.assembled-a.ensures full c.args.out.now (0 ∷ []) c.shown-n.ensures c.if-out-n.true in
    record { result_value = told.0; out_after = told.1.0; text_len_bound = told.1.1 }

pub shown-requires : goal.shown-requires
shown-requires c = record { a_in_bounds = words-within c.args.text.now c.assembled-a.new.words c.assembled-a.result c.assembled-a.ensures; words_len_bound = omega arith }

pub returns : goal.returns
returns c =
    let full : length c.assembled-a.new.words ≡ 32767 = search rules in
    let told = room c.args.text.now c.assembled-a.new.words c.assembled-a.result c.assembled-a.ensures full c.args.out.now (0 ∷ []) c.shown-n.ensures c.if-out-n.false c.shown.ensures in
    record { result_value = told.0; out_after = told.1.0; text_len_bound = told.1.1 }
