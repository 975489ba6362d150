-- What each instruction line so far has come to: its instruction, or a reference that waits. The words and the open
-- references of a work are read off this list, and each line adds to its end. Assumes nothing.
use Prim.Native.Nat.{ℕ, suc, ◌+◌, ◌≤◌}
use mathlib.Core.Path.{◌≡◌, refl, ap, ◌∙◌}
use mathlib.Core.Bool.{Bool, true, false}
use mathlib.Core.List.{List, [], ◌∷◌, ◌++◌, map}
use native.Mathlib.Omega.{arith}
use lib.ListN.{length}
use lib.Seq.{append_snoc}
use Rattle.base.specs.Choice.{cond}
use Rattle.base.specs.Told.{Told, is}
use Rattle.base.specs.Words.{doubled}
use Rattle.instruction.specs.declared.Instruction.{Instruction}
use Rattle.instruction.proofs.RoundTrip.{round_trip}
use Rattle.parser.specs.declared.Reference.{Reference}
use Rattle.parser.specs.References.{resolved}
use Rattle.labels.specs.declared.Open.{Open}
use Rattle.labels.specs.Labels.{names}
use Rattle.labels.specs.Opens.{open_to}
use Rattle.asm.specs.Labels.{part}
use Rattle.asm.specs.Reading.{Item, label}
use Rattle.asm.specs.Meaning.{Meant, instruction, never, refer, later, word_of, nevers}
use Rattle.asm.specs.Strict.{AllSay}
use Rattle.asm.proofs.Accepted.{Allowed, allowed-said}
use Rattle.asm.proofs.Tables.{names-swap}

pub data Slot : Type 0 where
  done : Instruction → Slot
  waits : Reference → ℕ → ℕ → Slot

-- what it means if no label comes any more
abbrev pub as_meant : Slot → Meant
as_meant (done i) = instruction i
as_meant (waits r place size) = never

abbrev pub slot_word : Slot → ℕ
slot_word s = word_of (as_meant s)

-- those that wait, the first of all being instruction i
abbrev pub open_from : ℕ → List Slot → List Open
open_from i [] = []
open_from i (done j ∷ slots) = open_from (suc i) slots
open_from i (waits r place size ∷ slots) = open_to place size i r ∷ open_from (suc i) slots

-- after a definition of the name
abbrev pub becomes : List ℕ → List ℕ → ℕ → Slot → Slot
becomes text name a (done i) = done i
becomes text name a (waits r place size) = cond (names text place size name) (done (resolved r a)) (waits r place size)

-- what it means if names come to these addresses
abbrev pub settle : List ℕ → (List ℕ → Told ℕ) → Slot → Meant
settle text f (done i) = instruction i
settle text f (waits r place size) = refer r (f (part text place size))

-- an instruction has a word by the rule, and a name stands within the text
abbrev pub Good : Bool → ℕ → Slot → Type 0
Good strict n (done i) = Allowed strict i
Good strict n (waits r place size) = place + size ≤ n

abbrev pub AllGood : Bool → ℕ → List Slot → Type 0
AllGood strict n [] = Unit {0}
AllGood strict n (s ∷ slots) = Good strict n s × AllGood strict n slots

-- ---- one more

pub map_snoc : {A B : Type 0} (f : A → B) (xs : List A) (x : A) → map f (xs ++ x ∷ []) ≡ map f xs ++ f x ∷ []
map_snoc f [] x = refl
map_snoc {A} {B} f (z ∷ xs) x = ap (λ (r : List B). f z ∷ r) (map_snoc f xs x)

pub map-end : {A B : Type 0} (f : A → B) (xs : List A) (x : A) (ys : List B) → map f (xs ++ x ∷ []) ++ ys ≡ map f xs ++ f x ∷ ys
map-end {A} {B} f xs x ys = ap (λ (r : List B). r ++ ys) (map_snoc f xs x) ∙ append_snoc (map f xs) (f x) ys

pub map-length : {A B : Type 0} (f : A → B) (xs : List A) → length (map f xs) ≡ length xs
map-length f [] = refl
map-length f (x ∷ xs) = ap suc (map-length f xs)

pub open_done : (i : ℕ) (slots : List Slot) (j : Instruction) → open_from i (slots ++ done j ∷ []) ≡ open_from i slots
open_done i [] j = refl
open_done i (done k ∷ slots) j = open_done (suc i) slots j
open_done i (waits r place size ∷ slots) j = ap (λ (x : List Open). open_to place size i r ∷ x) (open_done (suc i) slots j)

pub open-waits : (i : ℕ) (slots : List Slot) (r : Reference) (p s : ℕ) →
    open_from i (slots ++ waits r p s ∷ []) ≡ open_from i slots ++ open_to p s (i + length slots) r ∷ []
open-waits i [] r p s =
    let e : i ≡ i + 0 = omega arith in
    ap (λ (k : ℕ). open_to p s k r ∷ []) e
open-waits i (done j ∷ slots) r p s =
    let e : suc i + length slots ≡ i + suc (length slots) = omega arith in
    open-waits (suc i) slots r p s ∙ ap (λ (k : ℕ). open_from (suc i) slots ++ open_to p s k r ∷ []) e
open-waits i (waits q place size ∷ slots) r p s =
    let e : suc i + length slots ≡ i + suc (length slots) = omega arith in
    ap (λ (x : List Open). open_to place size i q ∷ x) (open-waits (suc i) slots r p s) ∙
    ap (λ (k : ℕ). open_to place size i q ∷ open_from (suc i) slots ++ open_to p s k r ∷ []) e

pub good-end : (strict : Bool) (n : ℕ) (slots : List Slot) (s : Slot) → AllGood strict n slots → Good strict n s → AllGood strict n (slots ++ s ∷ [])
good-end strict n [] s g h = (h, tt)
good-end strict n (x ∷ slots) s g h = (g.0, good-end strict n slots s g.1 h)

-- ---- what they mean

pub settled-none : (text : List ℕ) (n : ℕ) (slots : List Slot) → map as_meant slots ≡ map (settle text (λ name. later text name n [])) slots
settled-none text n [] = refl
settled-none text n (done i ∷ slots) = ap (λ (r : List Meant). instruction i ∷ r) (settled-none text n slots)
settled-none text n (waits r place size ∷ slots) = ap (λ (r : List Meant). never ∷ r) (settled-none text n slots)

-- what waits for a name gets the address of its next definition
module _ (strict : Bool) (text : List ℕ) (place size n : ℕ) (items : List Item) (h : place + size ≤ length text) where
  settled-one : (s : Slot) → Good strict (length text) s →
      settle text (λ name. later text name n items) (becomes text (part text place size) (doubled n) s) ≡ settle text (λ name. later text name n (label place size ∷ items)) s
  settled-one (done i) g = refl
  settled-one (waits r q z) g =
      go (names text q z (part text place size)) ∙
      ap (λ (b : Bool). refer r (cond b (is (doubled n)) (later text (part text q z) n items))) (names-swap text q z place size g h)
    where
      go : (b : Bool) → settle text (λ name. later text name n items) (cond b (done (resolved r (doubled n))) (waits r q z)) ≡
          refer r (cond b (is (doubled n)) (later text (part text q z) n items))
      go true = refl
      go false = refl

  pub settled-now : (slots : List Slot) → AllGood strict (length text) slots →
      map (settle text (λ name. later text name n items)) (map (becomes text (part text place size) (doubled n)) slots) ≡
      map (settle text (λ name. later text name n (label place size ∷ items))) slots
  settled-now [] g = refl
  settled-now (s ∷ slots) g =
      ap (λ (m : Meant). m ∷ map (settle text (λ name. later text name n items)) (map (becomes text (part text place size) (doubled n)) slots)) (settled-one s g.0) ∙
      ap (λ (ms : List Meant). settle text (λ name. later text name n (label place size ∷ items)) s ∷ ms) (settled-now slots g.1)

-- ---- what a list of them shows at the end

pub open-nevers : (i : ℕ) (slots : List Slot) → length (open_from i slots) ≡ nevers (map as_meant slots)
open-nevers i [] = refl
open-nevers i (done j ∷ slots) = open-nevers (suc i) slots
open-nevers i (waits r place size ∷ slots) = ap suc (open-nevers (suc i) slots)

-- strict: what each says comes back from its word, by the round trip
pub slots-say : (n : ℕ) (slots : List Slot) → AllGood true n slots → AllSay (map as_meant slots) (map slot_word slots)
slots-say n [] g = tt
slots-say n (done i ∷ slots) g =
    let h = allowed-said i g.0 in
    (round_trip i h.0 h.1, slots-say n slots g.1)
slots-say n (waits r place size ∷ slots) g = (refl, slots-say n slots g.1)
