-- The first row with the token as its name is the definition's, and its register is read. Assumes nothing.
use Rattle.std.proofs.Common.{rules, ◌≡◌, ◌∙◌, Bor, List, Option, ap}
use Rattle.std.specs.Prelude.{ok_or}
use Rattle.std.specs.Option.{option_map}
use Rattle.std.proofs.lemmas.Iterator.Search.{find_from_yields_List}
use Rattle.std.proofs.lemmas.Iterator.{YieldsList-from_slice}
use Rattle.base.specs.Told.{told}
use Rattle.base.specs.declared.refusals.Refusal.TheVariants.{InvalidRegister}
use Rattle.instruction.specs.declared.Register.{Register}
use Rattle.mnemonics.specs.Tables.{Row}
use Rattle.mnemonics.proofs.Scans.{row-read}
use Rattle.parser.specs.Operands.{register, register_in}
use Rattle.parser.proofs.RegisterLaws.{Entry, spelled, found}
use Rattle.parser.proofs.registers.register.Goals as goal

pub returns : goal.returns
unfolding register
returns c =
    let token = c.args.token.now in
    let table = c.register_names.result.now in
    let first = find_from_yields_List (spelled token) _ _ c.find-row.result c.find-row.ensures.ran (YieldsList-from_slice table cc) (λ x b q h. search rules) in
    let read : c.map.result ≡ option_map (λ (y : Bor Entry). y.now.1) c.find-row.result = search rules in
    let chosen : c.map.result ≡ _ = read ∙ row-read (λ (m : Entry). m.1) c.find-row.result ∙ ap (option_map (λ (m : Entry). m.1)) first in
    ap told c.ok_or.ensures.value ∙ ap (λ (o : Option Register). told (ok_or o InvalidRegister)) chosen ∙ found token table ∙
    ap (λ (rs : List (Row Register)). register_in rs token) c.register_names.ensures
