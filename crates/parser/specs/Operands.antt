-- How an operand is read. Operands are read from left to right, and the first that is refused gives its number to the line.
use Rattle.std.specs.Prelude.{ℕ, zero, suc, List, [], ◌∷◌, Bool, false, eqb, leb}
use Rattle.base.specs.Bytes.{bytes, same}
use Rattle.base.specs.Choice.{cond}
use Rattle.base.specs.Told.{Told, is, no, ◌>>=◌}
use Rattle.instruction.specs.declared.Operand.{Operand}
use Rattle.instruction.specs.declared.Operand.TheVariants.{Reg, Imm}
use Rattle.instruction.specs.declared.Register.{Register}
use Rattle.instruction.specs.declared.Register.TheVariants.{A, B, C, M, SP, PC, BP, FLAGS}
use Rattle.mnemonics.specs.Tables.{Row, row, first_row}
use Rattle.text.specs.Immediates.{immediate}
use Rattle.text.specs.Parts.{equals, drop_front, drop_end}
use Rattle.parser.specs.declared.brackets.Shift.{Shift}
use Rattle.parser.specs.declared.brackets.Address.{Address}
use Rattle.parser.specs.Answers.{both, triple, turn, at}

-- ---- one after the other

-- token k of a line, read so; 21 where it is missing
abbrev pub nth : {A : Type 0} → ℕ → (List ℕ → Told A) → List (List ℕ) → Told A
nth k reads [] = no 21
nth zero reads (t ∷ ts) = reads t
nth (suc k) reads (t ∷ ts) = nth k reads ts

-- the operands of a line: token 0 is the mnemonic
abbrev pub first : {A : Type 0} → (List ℕ → Told A) → List (List ℕ) → Told A
first reads line = nth 1 reads line

abbrev pub second : {A : Type 0} → (List ℕ → Told A) → List (List ℕ) → Told A
second reads line = nth 2 reads line

abbrev pub third : {A : Type 0} → (List ℕ → Told A) → List (List ℕ) → Told A
third reads line = nth 3 reads line

-- ---- the ways to read one: final commas are dropped from the first operand (not of JMP, CJP, CALL) and from the second of
-- three-register forms; in MSL, MSR and LDR to STB all leading `[` of the second and all final `]` of the third are dropped

abbrev pub hash : ℕ
hash = 35

abbrev pub comma : ℕ
comma = 44

abbrev pub opening : ℕ
opening = 91

abbrev pub closing : ℕ
closing = 93

abbrev pub starts : ℕ → List ℕ → Bool
starts b [] = false
starts b (x ∷ xs) = eqb x b

-- the registers by name
unfoldable pub register_names : List (Row Register)
register_names =
    row (bytes "A") A
    ∷ row (bytes "B") B
    ∷ row (bytes "C") C
    ∷ row (bytes "M") M
    ∷ row (bytes "SP") SP
    ∷ row (bytes "PC") PC
    ∷ row (bytes "BP") BP
    ∷ row (bytes "FLAGS") FLAGS
    ∷ []

-- is it this row's name?
abbrev pub called : List ℕ → Row Register → Bool
called t r = same t r.name

abbrev pub register_in : List (Row Register) → List ℕ → Told Register
register_in rs t = first_row (called t) (λ (r : Row Register). is r.value) (no 20) rs

-- registers are exact, else 20
unfoldable pub register : List ℕ → Told Register
register t = register_in register_names t

-- a register, its final commas dropped
abbrev pub comma_register : List ℕ → Told Register
comma_register t = register (drop_end (equals comma) t)

-- an immediate where it starts with `#`, else a register
unfoldable pub operand : List ℕ → Told Operand
operand t = cond (starts hash t) (immediate t >>= λ n. is (Imm n)) (register t >>= λ r. is (Reg r))

-- an immediate, all leading `[` dropped
abbrev pub opened_immediate : List ℕ → Told ℕ
opened_immediate t = immediate (drop_front (equals opening) t)

-- at most 255, else this number
abbrev pub eight_bits : ℕ → ℕ → Told ℕ
eight_bits over n = cond (leb n 255) (is n) (no over)

-- an immediate of eight bits, all final `]` dropped
abbrev pub closed_byte : ℕ → List ℕ → Told ℕ
closed_byte over t = immediate (drop_end (equals closing) t) >>= eight_bits over

-- ---- operands that belong together

-- the first operand a register, the second a register or an immediate
unfoldable pub register_and_operand : List (List ℕ) → Told (Register × Operand)
register_and_operand line = do
  r ← first comma_register line
  o ← second operand line
  is (both r o)

-- three registers
unfoldable pub three_registers : List (List ℕ) → Told (Register × Register × Register)
three_registers line = do
  d ← first comma_register line
  a ← second comma_register line
  b ← third register line
  is (triple d a b)

-- the immediate and then the amount, which is 22 over 255: MSL A, [#imm #amount]
unfoldable pub shift_operands : List (List ℕ) → Told Shift
shift_operands line = do
  r ← first comma_register line
  imm ← second opened_immediate line
  amount ← third (closed_byte 22) line
  is (turn r imm amount)

-- this register with the third operand as its shift, which is 24 over 255
unfoldable pub bracketed : Told Register → List (List ℕ) → Told Address
bracketed base line = do
  r ← base
  n ← third (closed_byte 24) line
  is (at r n)

-- an address: after `[` the register and then the shift; without, a register alone, and no third operand is looked at
unfoldable pub address : List (List ℕ) → List ℕ → Told Address
address line t =
    cond (starts opening t)
    (bracketed (register (drop_front (equals opening) t)) line)
    (register t >>= λ r. is (at r 0))
