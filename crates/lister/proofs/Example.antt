-- 01's example: the definitions, those of the crates below included, compute from its text to its output. Assumes nothing.
use mathlib.Core.Path.{◌≡◌, refl}
use Rattle.base.specs.Bytes.{bytes}
use Rattle.instruction.specs.Decode.{decode, arm, arms}
use Rattle.printer.specs.Text.{text_in, digits, decimal_of, immediate_of, register_name, compare_name, byte_name, operand_of, one, pair, address_of, addressed}
use Rattle.text.specs.Immediates.{digit_of, immediate}
use Rattle.text.specs.Parts.{is_blank}
use Rattle.mnemonics.specs.Mnemonics.{rows, upper, kind_of}
use Rattle.parser.specs.Operands as Operands
use Rattle.parser.specs.Parse as Parse
use Rattle.labels.specs.Labels.{names, find_from, find}
use Rattle.asm.specs.Labels.{define, patch}
use Rattle.asm.specs.Reading.{read}
use Rattle.asm.specs.Words.{strict_order, strict_word, word_of, add_word, add_instruction}
use Rattle.asm.specs.Work.{says, references, labelled, turn}
use Rattle.asm.specs.Assemble.{assemble}
use Rattle.pen.specs.Numbers.{hex, decimal, two_numbers}
use Rattle.lister.specs.Listing.{line, lines_from, totals, outcome, listing}

pub example : listing (bytes "; poll\nagain:\nLDB A, B\nEQ A, #0\nCJP again\nMOV PC, C\n")
    ≡ bytes "0000 0088 LDB A, B\n0002 0007 EQ A, #0\n0004 0005 CJP #0\n0006 02D1 MOV PC, C\nwords 4 open 0\n"
unfolding hex decimal line lines_from two_numbers totals outcome listing decode arm arms text_in digits decimal_of immediate_of register_name compare_name byte_name operand_of one pair address_of addressed digit_of immediate is_blank rows upper kind_of Operands.register_names Operands.register Operands.operand Operands.register_and_operand Operands.address Parse.takes Parse.mov Parse.compare Parse.transfer Parse.target Parse.meaning Parse.parse names find_from find define patch read strict_order strict_word word_of add_word add_instruction says references labelled turn assemble
example = refl
