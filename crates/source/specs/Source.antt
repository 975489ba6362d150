-- Request 3, to be held beside its words: the assembly text for words. "Lines are the printer's, each ended by byte 10, but Noop is
-- DBG, MSL and MSR in the parser's order, register-mode 5 as CJP. An immediate jump or call to an even address inside the program uses
-- a label `L` and four upper-case hex digits; a label line stands just before each address so used, nowhere else. Refusals: 16 first,
-- over 32,767 words; 33 NoText with the lowest such word's index, exactly if no accepted line assembles to that word, found before 19."
-- Promises.antt has what is asked of the text.
use Rattle.std.specs.Prelude.{ℕ, ◌+◌, ◌%◌, ◌≤◌, ◌<◌, Bool, true, false, ◌&&◌, ◌||◌, List, [], ◌∷◌, ◌++◌, map, eqb, ltb, length, Option, Some, None, Result, Ok, Err}
use Rattle.base.specs.Bytes.{bytes}
use Rattle.base.specs.Choice.{cond}
use Rattle.base.specs.Numbers.{number_of}
use Rattle.base.specs.declared.refusals.Refusal.{Refusal}
use Rattle.base.specs.Order.{Refusing, ◌when◌, passing}
use Rattle.base.specs.Told.{Told, is, no}
use Rattle.base.specs.Words.{doubled}
use Rattle.wordbytes.specs.Words.{words_in, even}
use Rattle.instruction.specs.declared.Edition.TheVariants.{Second}
use Rattle.instruction.specs.declared.Operand.{Operand}
use Rattle.instruction.specs.declared.Operand.TheVariants.{Reg, Imm}
use Rattle.instruction.specs.declared.Instruction.{Instruction}
use Rattle.instruction.specs.declared.Instruction.TheVariants.{Noop, Mov, MovShift, Arith, ArithRegReg, LdrStr, LdbStb, Cpy, Jmp, CondJmp, Cmp, CallRet}
use Rattle.printer.specs.Text.{text_in}
use Rattle.printer.specs.Print.{placed}
use Rattle.pen.specs.Numbers.{hex}
use Rattle.text.specs.Lines.{ended}
use Rattle.parser.specs.declared.Reference.{Reference}
use Rattle.parser.specs.declared.Reference.TheVariants as reference
use Rattle.source.specs.declared.Fault.{Fault}
use Rattle.source.specs.declared.aims.Aim.{Aim}
use Rattle.source.specs.Words.{instruction_of, lowest}

-- ---- the line of an instruction: the printer's of edition 2, whose order the parser reads

abbrev pub is_noop : Instruction → Bool
is_noop Noop = true
is_noop (Mov d o) = false
is_noop (MovShift r amount left imm) = false
is_noop (Arith d o op) = false
is_noop (ArithRegReg d a b op) = false
is_noop (LdrStr r a store shift) = false
is_noop (LdbStb r a store shift) = false
is_noop (Cpy a b) = false
is_noop (Jmp o) = false
is_noop (CondJmp o) = false
is_noop (Cmp r o op) = false
is_noop (CallRet ret a) = false

unfoldable pub plain_line : Instruction → List ℕ
plain_line i = cond (is_noop i) (bytes "DBG") (text_in Second i)

-- ---- labels

-- L and four upper-case hex digits
unfoldable pub label_name : ℕ → List ℕ
label_name a = bytes "L" ++ hex a

-- an immediate jump or call, and to where
abbrev pub to : Reference → ℕ → Option Aim
to r a = Some (record { reference = r; address = a })

abbrev pub jump_to : Reference → Operand → Option Aim
jump_to r (Reg x) = None
jump_to r (Imm a) = to r a

abbrev pub aim_of : Instruction → Option Aim
aim_of Noop = None
aim_of (Mov d o) = None
aim_of (MovShift r amount left imm) = None
aim_of (Arith d o op) = None
aim_of (ArithRegReg d a b op) = None
aim_of (LdrStr r a store shift) = None
aim_of (LdbStb r a store shift) = None
aim_of (Cpy a b) = None
aim_of (Jmp o) = jump_to reference.Jmp o
aim_of (CondJmp o) = jump_to reference.CondJmp o
aim_of (Cmp r o op) = None
aim_of (CallRet true a) = None
aim_of (CallRet false a) = to reference.Call a

-- an even address inside a program of n words
unfoldable pub inside : ℕ → ℕ → Bool
inside n a = eqb (a % 2) 0 && ltb a (doubled n)

-- the printer's names of these three
abbrev pub reference_name : Reference → List ℕ
reference_name reference.Jmp = bytes "JMP"
reference_name reference.CondJmp = bytes "CJP"
reference_name reference.Call = bytes "CALL"

unfoldable pub refer_line : Reference → ℕ → List ℕ
refer_line r a = reference_name r ++ bytes " " ++ label_name a

unfoldable pub label_line : ℕ → List ℕ
label_line a = label_name a ++ bytes ":"

-- ---- the lines of a program

-- of n words
abbrev pub line_by : ℕ → Instruction → Option Aim → List ℕ
line_by n i None = plain_line i
line_by n i (Some x) = cond (inside n x.address) (refer_line x.reference x.address) (plain_line i)

abbrev pub line_of : ℕ → Instruction → List ℕ
line_of n i = line_by n i (aim_of i)

abbrev pub aims_at : ℕ → Option Aim → Bool
aims_at a None = false
aims_at a (Some x) = eqb x.address a

-- is the address used by one of these?
abbrev pub used_by : List Instruction → ℕ → Bool
used_by [] a = false
used_by (i ∷ xs) a = aims_at a (aim_of i) || used_by xs a

-- those from instruction k on; a label line stands just before each address that is used
abbrev pub lines_of : (ℕ → Bool) → ℕ → ℕ → List Instruction → List (List ℕ)
lines_of used n k [] = []
lines_of used n k (i ∷ xs) =
    cond (used (doubled k)) (label_line (doubled k) ∷ line_of n i ∷ lines_of used n (k + 1) xs) (line_of n i ∷ lines_of used n (k + 1) xs)

unfoldable pub source_of : List Instruction → List ℕ
source_of xs = ended (lines_of (used_by xs) (length xs) 0 xs)

-- ---- the whole: the text of words, and what is answered with so many bytes of room

abbrev pub source_text : List ℕ → List ℕ
source_text ws = source_of (map instruction_of ws)

abbrev pub source_order : List ℕ → ℕ → List Refusing
source_order ws room =
    16 when ltb 32767 (length ws)
    ∷ 33 when ltb (lowest ws) (length ws)
    ∷ 19 when ltb room (length (source_text ws))
    ∷ []

-- how long the text is, or the refusal's number
unfoldable pub sourced : List ℕ → ℕ → Told ℕ
sourced ws room = passing (source_order ws room) (length (source_text ws))

-- 33 has the lowest word's index with it, each other refusal 0
pub data Answer : Type 0 where
  length_of : ℕ → Answer
  refusal : ℕ → ℕ → Answer

abbrev pub answer_by : ℕ → Told ℕ → Answer
answer_by index (is n) = length_of n
answer_by index (no n) = refusal n (cond (eqb n 33) index 0)

unfoldable pub answer : List ℕ → ℕ → Answer
answer ws room = answer_by (lowest ws) (sourced ws room)

abbrev pub fault : Refusal → ℕ → Fault
fault r index = record { refusal = r; index = index }

abbrev pub answered : Result ℕ Fault → Answer
answered (Ok n) = length_of n
answered (Err f) = refusal (number_of f.refusal) f.index

-- the buffer: a refusal writes nothing, and the bytes past the text stay
abbrev pub buffer_by : List ℕ → List ℕ → Told ℕ → List ℕ
buffer_by text buffer (is n) = placed text buffer 0
buffer_by text buffer (no n) = buffer

unfoldable pub source_buffer : List ℕ → List ℕ → List ℕ
source_buffer ws buffer = buffer_by (source_text ws) buffer (sourced ws (length buffer))

-- ---- of words as bytes, the low byte of each first: 31 before all, where there is half a word

unfoldable pub byte_answer : List ℕ → ℕ → Answer
byte_answer bytes room = cond (even bytes) (answer (words_in bytes) room) (refusal 31 0)

unfoldable pub byte_buffer : List ℕ → List ℕ → List ℕ
byte_buffer bytes buffer = cond (even bytes) (source_buffer (words_in bytes) buffer) buffer

-- no text is longer (Promises.antt)
abbrev pub longest_text : ℕ
longest_text = 851942

-- for a caller that makes one number of both parts: a length of at most so many, or a number from 16 to 33 and an index below 32,767
abbrev pub Small : Answer → Type 0
Small (length_of n) = n ≤ longest_text
Small (refusal n index) = (16 ≤ n) × (n ≤ 33) × (index < 32767)
