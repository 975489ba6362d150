-- What request 3 asks of the text, to be held beside its words: "such that plain assembly of it gives the very same words, given room in
-- the assembler's tables"; "33 NoText with the lowest such word's index, exactly if no accepted line assembles to that word". Proved in
-- proofs/Back.antt, NoText.antt, Printed.antt and Longest.antt.
use Rattle.std.specs.Prelude.{ℕ, ◌+◌, ◌≤◌, ◌<◌, ◌≡◌, Bool, true, false, List, [], ◌∷◌, map, length, get_or, Option, Some, None}
use Rattle.base.specs.Choice.{cond}
use Rattle.base.specs.Told.{is}
use Rattle.instruction.specs.declared.Edition.{Edition}
use Rattle.instruction.specs.declared.Edition.TheVariants.{First, Second}
use Rattle.instruction.specs.declared.Instruction.{Instruction}
use Rattle.instruction.specs.declared.Instruction.TheVariants.{Noop, Mov, MovShift, Arith, ArithRegReg, LdrStr, LdbStb, Cpy, Jmp, CondJmp, Cmp, CallRet}
use Rattle.instruction.specs.Fits.{fits, plain_return, sayable}
use Rattle.printer.specs.Text.{text_in}
use Rattle.text.specs.Lines.{ended}
use Rattle.asm.specs.Reading.{says, read}
use Rattle.asm.specs.Work.{Work, work}
use Rattle.asm.specs.Assemble.{Outcome, accepted, refused, outcome}
use Rattle.source.specs.declared.aims.Aim.{Aim}
use Rattle.source.specs.Words.{instruction_of, has_text, lowest}
use Rattle.source.specs.Source.{plain_line, aim_of, inside, source_text, sourced, length_of, refusal, answer, longest_text}

-- ---- plain assembly of the text, with room for its words and for 1,024 labels, gives the very same words, and no reference stays open.
-- The one refusal that it can get is 28, and then more than 512 of the words refer to a label (those that refer back are counted here too;
-- that they never wait is the assembler's own definition)

abbrev pub refers : ℕ → Option Aim → ℕ
refers n None = 0
refers n (Some x) = cond (inside n x.address) 1 0

-- how many of these refer to a label, in a program of n words
abbrev pub references : ℕ → List Instruction → ℕ
references n [] = 0
references n (i ∷ xs) = refers n (aim_of i) + references n xs

abbrev pub Back : List ℕ → Outcome → Type 0
Back ws (accepted w) = (w.words ≡ ws) × (length w.waiting ≡ 0)
Back ws (refused n line) = (n ≡ 28) × (512 < references (length ws) (map instruction_of ws))

abbrev pub TextBack : Type 0
TextBack = (ws : List ℕ) (space n : ℕ) → sourced ws space ≡ is n → (word_room label_room : ℕ) → length ws ≤ word_room → 1024 ≤ label_room →
    Back ws (outcome false (source_text ws) word_room label_room)

-- ---- a word without a text is in no text's words, whatever its lines, plain or strict; and one with a text is what its own line gives

abbrev pub Lacks : ℕ → List ℕ → Type 0
Lacks w [] = Unit {0}
Lacks w (v ∷ vs) = (v ≡ w → ⊥) × Lacks w vs

abbrev pub NoText : Type 0
NoText = (w : ℕ) →
    (has_text w ≡ false → (strict : Bool) (text : List ℕ) (word_room label_room : ℕ) (v : Work) → outcome strict text word_room label_room ≡ accepted v → Lacks w v.words) ×
    (has_text w ≡ true → outcome false (ended (plain_line (instruction_of w) ∷ [])) 1 0 ≡ accepted (work (w ∷ []) [] []))

-- 33 tells the lowest word without a text, and is given where there is one
abbrev pub LowestWord : Type 0
LowestWord = (ws : List ℕ) (room : ℕ) →
    ((index : ℕ) → answer ws room ≡ refusal 33 index →
    (index < length ws) × (has_text (get_or ws index 0) ≡ false) × ((k : ℕ) → k < index → has_text (get_or ws k 0) ≡ true)) ×
    ((k : ℕ) → length ws ≤ 32767 → k < length ws → has_text (get_or ws k 0) ≡ false → answer ws room ≡ refusal 33 (lowest ws))

-- where each word has a text and there is room, the text is given
abbrev pub TextGiven : Type 0
TextGiven = (ws : List ℕ) (room : ℕ) → length ws ≤ 32767 → ((k : ℕ) → k < length ws → has_text (get_or ws k 0) ≡ true) →
    length (source_text ws) ≤ room → answer ws room ≡ length_of (length (source_text ws))

-- ---- the printed line of each instruction whose fields fit is read back as that instruction, as a listing shows it (the first edition) and
-- in the parser's order (the second); but NOOP is no mnemonic, the first edition has MSL's and MSR's two numbers in the other order, and no
-- line says a return with an address. So each line of a source text that says an instruction is read back, Noop's being DBG

abbrev pub prints_back : Edition → Instruction → Bool
prints_back e Noop = false
prints_back e (Mov d o) = true
prints_back First (MovShift r amount left imm) = false
prints_back Second (MovShift r amount left imm) = true
prints_back e (Arith d o op) = true
prints_back e (ArithRegReg d a b op) = true
prints_back e (LdrStr r a store shift) = true
prints_back e (LdbStb r a store shift) = true
prints_back e (Cpy a b) = true
prints_back e (Jmp o) = true
prints_back e (CondJmp o) = true
prints_back e (Cmp r o op) = true
prints_back e (CallRet ret a) = plain_return ret a

abbrev pub PrintedBack : Type 0
PrintedBack = (e : Edition) (i : Instruction) → fits i ≡ true → prints_back e i ≡ true → read (text_in e i) ≡ is (says i)

abbrev pub LineBack : Type 0
LineBack = (i : Instruction) → fits i ≡ true → sayable i ≡ true → read (plain_line i) ≡ is (says i)

-- ---- a buffer of 851,942 bytes has room for every text, and one text has so many

abbrev pub Longest : Type 0
Longest = ((ws : List ℕ) → length ws ≤ 32767 → length (source_text ws) ≤ longest_text) ×
    ((ws : List ℕ) × ((length ws ≡ 32767) × (sourced ws longest_text ≡ is longest_text)))
