-- The printed text of an instruction, in each edition, is its mnemonic and its operands with one space between them, each a plain token; so
-- these are the text's tokens, and its first finds the instruction's own row of the mnemonic table. Assumes nothing.
use Prim.Native.Nat.{ℕ}
use mathlib.Core.Path.{◌≡◌, refl, ap, ◌∙◌}
use mathlib.Core.Bool.{Bool, true, false}
use mathlib.Core.List.{List, [], ◌∷◌, ◌++◌, append_assoc}
use lib.Dec.{eqb}
use lib.ListN.{drop}
use Rattle.base.specs.Bytes.{bytes}
use Rattle.base.specs.Choice.{cond}
use Rattle.base.proofs.Tests.{clash}
use Rattle.instruction.specs.declared.Edition.{Edition}
use Rattle.instruction.specs.declared.Edition.TheVariants.{First, Second}
use Rattle.instruction.specs.declared.Register.{Register}
use Rattle.instruction.specs.declared.Operand.{Operand}
use Rattle.instruction.specs.declared.Operand.TheVariants.{Reg, Imm}
use Rattle.instruction.specs.declared.Instruction.{Instruction}
use Rattle.instruction.specs.declared.Instruction.TheVariants.{Noop, Mov, MovShift, Arith, ArithRegReg, LdrStr, LdbStb, Cpy, Jmp, CondJmp, Cmp, CallRet}
use Rattle.text.specs.Tokens.{tokens, first, token_at}
use Rattle.text.proofs.JoinedLaws.{joined, is_plain, every, every_append, Plains, tokens-joined}
use Rattle.printer.specs.Text.{immediate_of, register_name, operand_of, one, pair, three, bracketed, shifted, turned, address_of, addressed, call_text, text_in}
use Rattle.mnemonics.specs.Mnemonics.{kind_of}
use Rattle.source.proofs.Numbers.{immediate-plain}
use Rattle.source.proofs.Names.{is_token, known, name_of, kind_for, named}

-- ---- the tokens after the mnemonic

abbrev pub comma : Register → List ℕ
comma r = register_name r ++ 44 ∷ []

abbrev pub bracket_tokens : List ℕ → ℕ → List (List ℕ)
bracket_tokens t n = (91 ∷ t) ∷ (immediate_of n ++ 93 ∷ []) ∷ []

abbrev pub turn_tokens : Edition → ℕ → ℕ → List (List ℕ)
turn_tokens First amount imm = bracket_tokens (immediate_of amount) imm
turn_tokens Second amount imm = bracket_tokens (immediate_of imm) amount

abbrev pub address_tokens : Register → ℕ → List (List ℕ)
address_tokens a shift = cond (eqb shift 0) (register_name a ∷ []) (bracket_tokens (register_name a) shift)

abbrev pub operands_of : Edition → Instruction → List (List ℕ)
operands_of e Noop = []
operands_of e (Mov d o) = comma d ∷ operand_of o ∷ []
operands_of e (MovShift r amount left imm) = comma r ∷ turn_tokens e amount imm
operands_of e (Arith d o op) = comma d ∷ operand_of o ∷ []
operands_of e (ArithRegReg d a b op) = comma d ∷ comma a ∷ register_name b ∷ []
operands_of e (LdrStr r a store shift) = comma r ∷ address_tokens a shift
operands_of e (LdbStb r a store shift) = comma r ∷ address_tokens a shift
operands_of e (Cpy a b) = comma a ∷ register_name b ∷ []
operands_of e (Jmp o) = operand_of o ∷ []
operands_of e (CondJmp o) = operand_of o ∷ []
operands_of e (Cmp r o op) = comma r ∷ operand_of o ∷ []
operands_of e (CallRet true a) = []
operands_of e (CallRet false a) = immediate_of a ∷ []

abbrev pub tokens_of : Edition → Instruction → List (List ℕ)
tokens_of e i = name_of i ∷ operands_of e i

-- ---- as they are printed

spaced : (x y : List ℕ) → x ++ 44 ∷ 32 ∷ [] ++ y ≡ x ++ 44 ∷ [] ++ 32 ∷ y
spaced x y = simp append_assoc

between : (x y : List ℕ) → x ++ 32 ∷ [] ++ y ++ 93 ∷ [] ≡ x ++ 32 ∷ (y ++ 93 ∷ [])
between x y = simp append_assoc

closed : (x y : List ℕ) → bytes "[" ++ x ++ bytes " " ++ y ++ bytes "]" ≡ joined ((91 ∷ x) ∷ (y ++ 93 ∷ []) ∷ [])
closed x y = ap (λ (l : List ℕ). 91 ∷ l) (between x y)

module _ (m : List ℕ) where
  -- a register, and what stands behind its comma
  register-joined : (r : Register) (x t : List ℕ) (ts : List (List ℕ)) → x ≡ joined (t ∷ ts) →
      m ++ (bytes " " ++ register_name r ++ bytes ", " ++ x) ≡ joined (m ∷ comma r ∷ t ∷ ts)
  register-joined r x t ts e = ap (λ (l : List ℕ). m ++ 32 ∷ l) (spaced (register_name r) x ∙ ap (λ (l : List ℕ). comma r ++ 32 ∷ l) e)

  pair-joined : (d : Register) (o : Operand) → m ++ pair d o ≡ joined (m ∷ comma d ∷ operand_of o ∷ [])
  unfolding pair
  pair-joined d o = register-joined d (operand_of o) (operand_of o) [] refl

  three-joined : (d a b : Register) → m ++ three d a b ≡ joined (m ∷ comma d ∷ comma a ∷ register_name b ∷ [])
  unfolding three pair operand_of
  three-joined d a b = simp append_assoc

  bracket-joined : (r : Register) (x : List ℕ) (n : ℕ) →
      m ++ (bytes " " ++ register_name r ++ bytes ", " ++ (bytes "[" ++ x ++ bytes " " ++ immediate_of n ++ bytes "]")) ≡ joined (m ∷ comma r ∷ bracket_tokens x n)
  bracket-joined r x n = register-joined r (bytes "[" ++ x ++ bytes " " ++ immediate_of n ++ bytes "]") (91 ∷ x) ((immediate_of n ++ 93 ∷ []) ∷ []) (closed x (immediate_of n))

  shift-joined : (r : Register) (x y : ℕ) → m ++ shifted r x y ≡ joined (m ∷ comma r ∷ bracket_tokens (immediate_of x) y)
  unfolding shifted bracketed
  shift-joined r x y = bracket-joined r (immediate_of x) y

  address-joined : (r a : Register) (shift : ℕ) → m ++ addressed r a shift ≡ joined (m ∷ comma r ∷ address_tokens a shift)
  unfolding addressed address_of
  address-joined r a shift = go (eqb shift 0)
    where
      go : (t : Bool) →
          m ++ (bytes " " ++ register_name r ++ bytes ", " ++ cond t (register_name a) (bytes "[" ++ register_name a ++ bytes " " ++ immediate_of shift ++ bytes "]")) ≡
          joined (m ∷ comma r ∷ cond t (register_name a ∷ []) (bracket_tokens (register_name a) shift))
      go true = register-joined r (register_name a) (register_name a) [] refl
      go false = bracket-joined r (register_name a) shift

pub text-joined : (e : Edition) (i : Instruction) → text_in e i ≡ joined (tokens_of e i)
unfolding text_in turned one call_text operand_of
text-joined e Noop = refl
text-joined e (Mov d o) = pair-joined (name_of (Mov d o)) d o
text-joined First (MovShift r amount left imm) = shift-joined (name_of (MovShift r amount left imm)) r amount imm
text-joined Second (MovShift r amount left imm) = shift-joined (name_of (MovShift r amount left imm)) r imm amount
text-joined e (Arith d o op) = pair-joined (name_of (Arith d o op)) d o
text-joined e (ArithRegReg d a b op) = three-joined (name_of (ArithRegReg d a b op)) d a b
text-joined e (LdrStr r a store shift) = address-joined (name_of (LdrStr r a store shift)) r a shift
text-joined e (LdbStb r a store shift) = address-joined (name_of (LdbStb r a store shift)) r a shift
text-joined e (Cpy a b) = pair-joined (name_of (Cpy a b)) a (Reg b)
text-joined e (Jmp o) = refl
text-joined e (CondJmp o) = refl
text-joined e (Cmp r o op) = pair-joined (name_of (Cmp r o op)) r o
text-joined e (CallRet true a) = refl
text-joined e (CallRet false a) = refl

-- ---- each is a plain token

plains : (t : List ℕ) (ts : List (List ℕ)) → is_token t ≡ true → Plains ts → Plains (t ∷ ts)
plains [] ts e h = clash e
plains (x ∷ xs) ts e h = (e, h)

longer : (t u : List ℕ) → is_token t ≡ true → every is_plain u ≡ true → is_token (t ++ u) ≡ true
longer [] u e f = clash e
longer (x ∷ xs) u e f = every_append is_plain (x ∷ xs) u e f

immediate-token : (n : ℕ) → is_token (immediate_of n) ≡ true
unfolding immediate_of
immediate-token n = immediate-plain n

-- as the last token, before a comma, in brackets
plain-register : (r : Register) → Plains (register_name r ∷ [])
plain-register r = plains (register_name r) [] (known r).token tt

plain-operand : (o : Operand) → Plains (operand_of o ∷ [])
unfolding operand_of
plain-operand (Reg r) = plain-register r
plain-operand (Imm n) = plains (immediate_of n) [] (immediate-token n) tt

plain-comma : (r : Register) (ts : List (List ℕ)) → Plains ts → Plains (comma r ∷ ts)
unfolding is_plain
plain-comma r ts h = plains (comma r) ts (longer (register_name r) (44 ∷ []) (known r).token refl) h

plain-bracket : (t : List ℕ) (n : ℕ) → is_token t ≡ true → Plains (bracket_tokens t n)
unfolding is_plain
plain-bracket [] n h = clash h
plain-bracket (x ∷ xs) n h = (h, plains (immediate_of n ++ 93 ∷ []) [] (longer (immediate_of n) (93 ∷ []) (immediate-token n) refl) tt)

plain-address : (a : Register) (shift : ℕ) → Plains (address_tokens a shift)
plain-address a shift = go (eqb shift 0)
  where
    go : (t : Bool) → Plains (cond t (register_name a ∷ []) (bracket_tokens (register_name a) shift))
    go true = plain-register a
    go false = plain-bracket (register_name a) shift (known a).token

operands-plain : (e : Edition) (i : Instruction) → Plains (operands_of e i)
operands-plain e Noop = tt
operands-plain e (Mov d o) = plain-comma d (operand_of o ∷ []) (plain-operand o)
operands-plain First (MovShift r amount left imm) = plain-comma r (turn_tokens First amount imm) (plain-bracket (immediate_of amount) imm (immediate-token amount))
operands-plain Second (MovShift r amount left imm) = plain-comma r (turn_tokens Second amount imm) (plain-bracket (immediate_of imm) amount (immediate-token imm))
operands-plain e (Arith d o op) = plain-comma d (operand_of o ∷ []) (plain-operand o)
operands-plain e (ArithRegReg d a b op) = plain-comma d (comma a ∷ register_name b ∷ []) (plain-comma a (register_name b ∷ []) (plain-register b))
operands-plain e (LdrStr r a store shift) = plain-comma r (address_tokens a shift) (plain-address a shift)
operands-plain e (LdbStb r a store shift) = plain-comma r (address_tokens a shift) (plain-address a shift)
operands-plain e (Cpy a b) = plain-comma a (register_name b ∷ []) (plain-register b)
operands-plain e (Jmp o) = plain-operand o
operands-plain e (CondJmp o) = plain-operand o
operands-plain e (Cmp r o op) = plain-comma r (operand_of o ∷ []) (plain-operand o)
operands-plain e (CallRet true a) = tt
operands-plain e (CallRet false a) = plains (immediate_of a) [] (immediate-token a) tt

pub text-plain : (e : Edition) (i : Instruction) → Plains (tokens_of e i)
text-plain e i = plains (name_of i) (operands_of e i) (named i).1 (operands-plain e i)

pub text-tokens : (e : Edition) (i : Instruction) → tokens (text_in e i) ≡ tokens_of e i
text-tokens e i = ap tokens (text-joined e i) ∙ tokens-joined (tokens_of e i) (text-plain e i)

-- the printer's names are the mnemonic table's
pub printed-name : (e : Edition) (i : Instruction) → kind_of (token_at (text_in e i) 0) ≡ kind_for i
printed-name e i = ap (λ (ts : List (List ℕ)). kind_of (first (drop 0 ts))) (text-tokens e i) ∙ (named i).0
