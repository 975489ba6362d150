-- One turn of storing a program's words, and each answer of a load with what it leaves. Assumes nothing.
use mathlib.Core.Path.{◌≡◌, sym, ap, ◌∙◌}
use mathlib.Core.Bool.{Bool, true, false}
use mathlib.Core.List.{List}
use Prim.Native.Nat.{ℕ, ◌+◌, ◌≤◌, ◌<◌}
use native.Mathlib.Numerals.{add-one}
use native.Mathlib.Omega.{arith}
use lib.Dec.{eqb}
use borrow.Author.Tests.{le-ltb, lt-leb}
use lib.ListN.{length, get_or, drop, drop_of_length-le}
use lib.Seq.{drop-cons}
use Rattle.base.specs.Choice.{cond}
use Rattle.base.specs.Words.{doubled}
use Rattle.map.specs.Valid.{valid}
use Rattle.map.specs.Entries.{region, with_region, region_number, region_map}
use Rattle.map.proofs.Laws.{region-last}
use Rattle.map.proofs.Orders.{region-map}
use Rattle.map.specs.declared.Map.{Map}
use Rattle.memory.specs.Bytes.{Lent}
use Rattle.memory.specs.Words.{word_stored, store_word, is_done}
use Rattle.memory.specs.Program.{words, store_words, load_order, load_number, load_map}
use Rattle.memory.specs.declared.Stored.{Stored}
use Rattle.std.specs.Prelude.{Result}
use Rattle.base.specs.Told.{told}
use Rattle.base.specs.declared.refusals.Refusal.{Refusal}

-- what is left to do from instruction i on gives the whole's answer and bytes
module _ (m : Map) (program : List ℕ) (s₀ s : Lent) (i : ℕ) (r : store_words m s₀ 0 program ≡ store_words m s i (drop i program)) where
  pub words-end : length program ≤ i → store_words m s₀ 0 program ≡ words true s
  unfolding store_words
  words-end h = r ∙ rw (drop_of_length-le program h)

  -- the callees' clauses as they stand: the address a, the store's outcome t and bytes s₁, and the test q of the outcome
  module _ (h : i < length program) (a : ℕ) (g : a ≡ doubled i) (t : Result Stored Refusal) (e : told t ≡ word_stored m s a) (s₁ : Lent) (f : s₁ ≡ store_word m s a (get_or program i 0)) (q : Bool) (d : q ≡ is_done (told t)) where
    done : (u : Bool) → q ≡ u → is_done (word_stored m s (doubled i)) ≡ u
    done u k = ap (λ (x : ℕ). is_done (word_stored m s x)) (sym g) ∙ ap is_done (sym e) ∙ sym d ∙ k

    stored : store_word m s (doubled i) (get_or program i 0) ≡ s₁
    stored = ap (λ (x : ℕ). store_word m s x (get_or program i 0)) (sym g) ∙ sym f

    pub words-stop : q ≡ false → store_words m s₀ 0 program ≡ words false s₁
    unfolding store_words
    words-stop k = r ∙ rw (drop-cons program i 0, done false k, stored)

    pub words_more : q ≡ true → store_words m s₀ 0 program ≡ store_words m s₁ (i + 1) (drop (i + 1) program)
    unfolding store_words
    words_more k = r ∙ rw (drop-cons program i 0, done true k, stored, add-one)

-- with a program of a valid map stored, what is left is adding the region
pub load-on : (m : Map) (s : Lent) (program : List ℕ) → valid m s.dev ≡ true → length program ≤ 32768 → m.regions < 8 → (store_words m s 0 program).all ≡ true
    → (region_number m (region 0 (length program)) ≡ load_number m s program) × (region_map m (region 0 (length program)) ≡ load_map m s program)
unfolding load_number load_order load_map
load-on m s program e h f g =
    let n = region-last m (region 0 (length program)) (omega arith) f ∙ rw (e, le-ltb _ _ h, lt-leb _ _ f, g) in
    (n, region-map m (region 0 (length program)) ∙ ap (λ (k : ℕ). cond (eqb k 0) (with_region m (region 0 (length program))) m) n)
