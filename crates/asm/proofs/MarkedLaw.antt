-- The marked lists: each row's text is assembled, by the definitions here and in the crates below, and ends as the row says. Assumes nothing.
use mathlib.Core.Path.{◌≡◌, refl}
use mathlib.Core.List.{map}
use Rattle.text.specs.Immediates.{digit_of, immediate}
use Rattle.text.specs.Parts.{is_blank}
use Rattle.mnemonics.specs.Mnemonics.{rows, upper, kind_of}
use Rattle.parser.specs.Operands as Operands
use Rattle.parser.specs.Parse as Parse
use Rattle.labels.specs.Labels.{names, find_from, find}
use Rattle.asm.specs.Labels.{define, add_open, patch}
use Rattle.asm.specs.Marked.{Row, marked, assembled, Ending, endings, strictly}
use Rattle.asm.specs.Reading.{read}
use Rattle.asm.specs.Words.{strict_order, strict_word, word_of, add_word, add_instruction}
use Rattle.asm.specs.Work.{says, opens, references, labelled, turn}
use Rattle.asm.specs.Assemble.{assemble}

pub all-marked : map (λ (r : Row). assembled r.text) marked ≡ map (λ (r : Row). r.words) marked
unfolding digit_of immediate is_blank rows upper kind_of Operands.register_names Operands.register Operands.operand Operands.register_and_operand Operands.three_registers Operands.bracketed Operands.address Parse.takes Parse.mov Parse.arith_reg_reg Parse.transfer Parse.target Parse.meaning Parse.parse names find_from find define add_open patch read word_of add_word add_instruction says opens references labelled turn assemble
all-marked = refl

pub all_end : map (λ (r : Ending). strictly r.text) endings ≡ map (λ (r : Ending). r.ends) endings
unfolding digit_of immediate is_blank rows upper kind_of Operands.register_names Operands.register Parse.takes Parse.target Parse.meaning Parse.parse names find_from find define patch read strict_order strict_word word_of add_word add_instruction says opens references labelled turn assemble
all_end = refl
