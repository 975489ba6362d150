-- What is known of every plan, by the cases of ActCases.antt: a refused one has a number from 2 to 9 and changes nothing, FLAGS bit 0 alone answers Stop, eight
-- registers stay eight, and each byte that is stored goes where memory sends it. Assumes nothing.
use mathlib.Core.Path.{◌≡◌, refl, ◌∙◌, subst}
use mathlib.Core.Bool.{true}
use Prim.Native.Nat.{ℕ}
use lib.ListN.{length}
use Rattle.base.specs.Told.{Told, is, no}
use Rattle.base.proofs.Tests.{clash}
use Rattle.base.proofs.ToldLaws.{Numbered}
use Rattle.memory.specs.Bytes.{Lent}
use Rattle.memory.specs.declared.Changes.TheVariants.{Nothing}
use Rattle.memory.proofs.Decisions.{Sound, byte-sound, decision-sound}
use Rattle.machine.specs.Registers.{flag}
use Rattle.machine.specs.Plan.{plans, plan}
use Rattle.machine.specs.Stores.{Storing, nothing, one_byte, one_word}
use Rattle.machine.specs.declared.Machine.{Machine}
use Rattle.machine.specs.declared.StepAnswer.{StepAnswer}
use Rattle.machine.specs.declared.StepAnswer.TheVariants.{Continue, Debug, Stop}
use Rattle.machine.proofs.ActCases.{Properties, StoresOf, GoodAs, plan-good, plan-gives}
use Rattle.machine.proofs.RegisterLaws.{put-length}

continue-not-stop : {A : Type 0} → Continue ≡ Stop → A
continue-not-stop e = clash cc

debug-not-stop : {A : Type 0} → Debug ≡ Stop → A
debug-not-stop e = clash cc

module _ (m : Machine) (b : Lent) where
  -- no answer but that of FLAGS bit 0 is Stop, a put changes no length, and memory's decisions are sound
  abbrev known : Properties m
  known = record {
    Answered = λ a. a ≡ Stop → flag m.registers 0 ≡ true;
    Held = λ t. length t.value ≡ length m.registers.value;
    Stores = Sound m.map b;
    continues = continue-not-stop;
    debugs = debug-not-stop;
    stops = λ f e. f;
    starts = refl;
    puts = λ t r v h. put-length t r v ∙ h;
  }

  sound : (x : Storing) → StoresOf m b known x
  sound nothing = tt
  sound (one_byte a v) = byte-sound m.map b a v
  sound (one_word a w) = decision-sound m.map b a w

  answered-as : (x : Told StepAnswer) → (plan m b).answer ≡ x → GoodAs m b known (plan m b) x
  answered-as x e = subst (GoodAs m b known (plan m b)) e (plan-good m b known sound)

  pub plan-refused : (n : ℕ) → (plan m b).answer ≡ no n → plan m b ≡ plans (no n) m.registers Nothing
  plan-refused n e = (answered-as (no n) e).0

  -- 2 to 9
  pub plan-numbered : Numbered 2 9 (plan m b).answer
  plan-numbered = go (plan m b).answer refl
    where
      go : (x : Told StepAnswer) → (plan m b).answer ≡ x → Numbered 2 9 x
      go (is a) e = tt
      go (no n) e = ((answered-as (no n) e).1, (answered-as (no n) e).2)

  pub plan-stops : (plan m b).answer ≡ is Stop → flag m.registers 0 ≡ true
  plan-stops e = (answered-as (is Stop) e).0 refl

  pub plan-eight : length m.registers.value ≡ 8 → length (plan m b).registers.value ≡ 8
  plan-eight h = (plan-gives m b known sound).0 ∙ h

  -- each byte that a plan stores goes where memory sends it, and is taken there
  pub plan-sound : Sound m.map b (plan m b).changes
  plan-sound = (plan-gives m b known sound).1
