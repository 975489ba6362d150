-- The first row that the token spells is the definition's, and its kind is read. Assumes nothing.
use Rattle.std.proofs.Common.{rules, ◌≡◌, ◌∙◌, true, List, Bor, refl, ap, map}
use Rattle.std.specs.Char.{to_ascii_lowercase}
use Rattle.std.specs.Option.{option_map}
use Rattle.std.proofs.lemmas.Iterator.Search.{find_from_yields_List}
use Rattle.std.proofs.lemmas.Iterator.{YieldsList-from_slice}
use Rattle.base.specs.Names.{letters}
use Rattle.mnemonics.specs.Tables.{Row}
use Rattle.mnemonics.specs.Mnemonics.{rows, upper, kind_in, kind_of}
use Rattle.mnemonics.specs.declared.Kind.{Kind}
use Rattle.mnemonics.proofs.Scans.{Entry, every, capitals, spelled, found, row-read, same_is}
use Rattle.mnemonics.proofs.spelling.kind_of.Goals as goal

every-capital : every capitals rows ≡ true
unfolding rows
every-capital = refl

pub returns : goal.returns
unfolding kind_of
returns c =
    let token = c.args.token.now in
    let table = c.table.result.now in
    let first = find_from_yields_List (spelled token) _ _ c.find.result c.find.ensures.ran (YieldsList-from_slice table cc) (λ x b q h. (search rules, same_is b (map to_ascii_lowercase (letters x.now.0)) (map to_ascii_lowercase token) (λ e. search rules) (λ e. search rules))) in
    let read : c.map.result ≡ option_map (λ (y : Bor Entry). y.now.1) c.find.result = search rules in
    read ∙ row-read (λ (m : Entry). m.1) c.find.result ∙ ap (option_map (λ (m : Entry). m.1)) first ∙
    found token table (ap (every capitals) c.table.ensures ∙ every-capital) ∙ ap (λ (rs : List (Row Kind)). kind_in rs (map upper token)) c.table.ensures
