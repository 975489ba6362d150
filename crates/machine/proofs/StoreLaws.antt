-- What a step stores, in 01's words: an accepted step leaves the bytes of its instruction's own stores and no others, since what
-- memory has decided and then makes is its store. Assumes nothing.
use mathlib.Core.Path.{◌≡◌, sym, ap, ◌∙◌, subst}
use mathlib.Core.Bool.{true, false}
use Prim.Native.Nat.{ℕ}
use Rattle.base.specs.Told.{is}
use Rattle.std.specs.Prelude.{Some}
use Rattle.instruction.specs.Decode.{decode}
use Rattle.instruction.specs.declared.Register.{Register}
use Rattle.instruction.specs.declared.Register.TheVariants.{PC}
use Rattle.instruction.specs.declared.Instruction.{Instruction}
use Rattle.map.specs.declared.Map.{Map}
use Rattle.memory.specs.Bytes.{Lent}
use Rattle.memory.specs.Words.{made, read_word, word_stored, byte_stored, byte_decision, word_decision}
use Rattle.memory.proofs.Decisions.{decision-makes, byte-makes, nothing-made, byte-outcome, word-outcome}
use Rattle.machine.specs.Registers.{get, flag}
use Rattle.machine.specs.Acts.{ended, storing, word_at, act}
use Rattle.machine.specs.Plan.{Planned, finished, decoded, fetched, plan}
use Rattle.machine.specs.Step.{After, committed, step}
use Rattle.machine.specs.States.{valid}
use Rattle.machine.specs.Stores.{Storing, nothing, one_byte, one_word, stores, storing_of}
use Rattle.machine.specs.declared.Machine.{Machine}
use Rattle.machine.specs.declared.Registers.{Registers}
use Rattle.machine.specs.declared.StepAnswer.{StepAnswer}
use Rattle.machine.proofs.ActCases.{changes_of, Properties, GoodAs, act-good, finished-good}
use Rattle.machine.proofs.Laws.{valid-step}

-- ---- how a store ends is what becomes of memory's own

pub str-ends : (m : Map) (b : Lent) (s : Registers) (r : Register) (a : ℕ) → word_at m b s r true a ≡ ended s (word_decision m b a (get s r)).changes (word_stored m b a)
unfolding word_at storing
str-ends m b s r a = ap (ended s (word_decision m b a (get s r)).changes) (word-outcome m b a (get s r))

pub byte-ends : (m : Map) (b : Lent) (s : Registers) (a v : ℕ) → storing s (byte_decision m b a v) ≡ ended s (byte_decision m b a v).changes (is (byte_stored m b a))
unfolding storing
byte-ends m b s a v = ap (ended s (byte_decision m b a v).changes) (byte-outcome m b a v)

-- ---- what is decided and then made is the store

stores-made : (m : Map) (b : Lent) (x : Storing) → made (changes_of m b x) b ≡ stores m b x
unfolding stores
stores-made m b nothing = nothing-made b
stores-made m b (one_byte a v) = byte-makes m b a v
stores-made m b (one_word a w) = decision-makes m b a w

-- so an accepted plan of an instruction leaves the bytes of its stores
module _ (m : Machine) (b : Lent) (i : Instruction) where
  abbrev leaves : Properties m
  leaves = record {
    Answered = λ a. Unit {0};
    Held = λ t. Unit {0};
    Stores = λ c. made c b ≡ stores m.map b (storing_of m b i);
    continues = tt;
    debugs = tt;
    stops = λ f. tt;
    starts = tt;
    puts = λ t r v h. tt;
  }

  abbrev done : Planned
  done = finished m.registers (act m b i)

  done-leaves : (z : StepAnswer) → done.answer ≡ is z → made done.changes b ≡ stores m.map b (storing_of m b i)
  done-leaves z e =
      let good = finished-good m b leaves (act m b i) (act-good m b leaves i (stores-made m.map b (storing_of m b i))) in
      (subst (GoodAs m b leaves done) e good).2

-- ---- and so does an accepted step

pub step-stores : (m : Machine) (b : Lent) (w : ℕ) (i : Instruction) (z : StepAnswer) → valid m b.dev ≡ true → flag m.registers 0 ≡ false
    → read_word m.map b (get m.registers PC) ≡ is (Some w) → decode w ≡ is i → (step m b).answer ≡ is z
    → (step m b).bytes ≡ stores m.map b (storing_of m b i)
unfolding committed plan fetched decoded
step-stores m b w i z h f r d e =
    let p : plan m b ≡ done m b i = rw (f, r, d) in
    let q : step m b ≡ committed m b (done m b i) = valid-step m b h ∙ ap (committed m b) p in
    ap (λ (x : After). x.bytes) q ∙ done-leaves m b i z (sym (ap (λ (x : After). x.answer) q) ∙ e)
