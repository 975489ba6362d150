-- What the crates above may use of a load: lengths stay, valid tables stay valid, at its end only 13 is left, and its answer says whether it began. Assumes nothing.
use mathlib.Core.Path.{◌≡◌, refl, ◌∙◌}
use mathlib.Core.Bool.{Bool, true, false, not, ◌&&◌}
use mathlib.Core.List.{List, [], ◌∷◌}
use Prim.Native.Nat.{ℕ, ◌+◌}
use native.Mathlib.Omega.{arith}
use lib.ListN.{length}
use borrow.Author.Tests.{leb-true, leb-false, ltb-true, ltb-false, le-leb, lt-leb, lt-ltb, le-ltb}
use lib.Dec.{leb, ltb, eqb}
use Rattle.base.specs.Choice.{cond}
use Rattle.base.specs.Words.{doubled}
use Rattle.map.specs.Tables.{any}
use Rattle.map.specs.Regions.{regions_overlap, used_regions}
use Rattle.map.specs.Valid.{valid}
use Rattle.map.specs.Entries.{region, with_region, region_number}
use Rattle.map.specs.declared.Map.{Map}
use Rattle.base.proofs.Tests.{both}
use Rattle.base.proofs.OrderLaws.{passed}
use Rattle.base.specs.Order.{◌when◌}
use Rattle.map.proofs.Laws.{valid-length, region-last}
use Rattle.map.proofs.KeptLaws.{Eight, eight-region, region-kept}
use Rattle.memory.specs.Bytes.{Lent}
use Rattle.memory.specs.Words.{word_stored, store_word, is_done}
use Rattle.memory.specs.Program.{words, store_words, load_order, load_number, begins, load_bytes, load_map}
use Rattle.memory.proofs.Laws.{SameLengths, same-lengths, then-lengths}
use Rattle.memory.proofs.WordLaws.{word-lengths}

pub words-lengths : (m : Map) (program : List ℕ) (s : Lent) (i : ℕ) → SameLengths (store_words m s i program).bytes s
unfolding store_words
words-lengths m [] s i = same-lengths s
words-lengths m (w ∷ rest) s i = go (is_done (word_stored m s (doubled i))) (words-lengths m rest (store_word m s (doubled i) w) (i + 1))
  where
    go : (t : Bool) → SameLengths (store_words m (store_word m s (doubled i) w) (i + 1) rest).bytes (store_word m s (doubled i) w) → SameLengths (cond t (store_words m (store_word m s (doubled i) w) (i + 1) rest) (words false (store_word m s (doubled i) w))).bytes s
    go true r = then-lengths r (word-lengths m s (doubled i) w)
    go false r = word-lengths m s (doubled i) w

-- a load's answer, other than 1, that is past 16 and 14
abbrev pub past : ℕ → Bool
past n = not (eqb n 16) && not (eqb n 14)

module _ (m : Map) (s : Lent) (program : List ℕ) where
  -- a load changes no length
  pub load-lengths : SameLengths (load_bytes m s program) s
  unfolding load_bytes
  load-lengths = go (valid m s.dev && begins m program)
    where
      go : (t : Bool) → SameLengths (cond t (store_words m s 0 program).bytes s) s
      go true = words-lengths m program s 0
      go false = same-lengths s

  -- one that is accepted may add its region
  load-taken : eqb (load_number m s program) 0 ≡ true → eqb (region_number m (region 0 (length program))) 0 ≡ true
  unfolding load_number load_order
  load-taken a =
      let t = passed (1 when not (valid m s.dev) ∷ load_order m s program) a in
      let h = ltb-false 32768 (length program) t.1.0 in
      rw (region-last m (region 0 (length program)) (omega arith) (leb-false 8 m.regions t.1.1.0), t.1.1.1.1.0)

  module _ (e : Eight m) where
    -- the tables keep their eight entries
    pub eight-load : Eight (load_map m s program)
    unfolding load_map
    eight-load = go (eqb (load_number m s program) 0)
      where
        go : (t : Bool) → Eight (cond t (with_region m (region 0 (length program))) m)
        go true = eight-region m e (region 0 (length program))
        go false = e

    -- and stay valid
    pub load_kept : valid m s.dev ≡ true → valid (load_map m s program) (load_bytes m s program).dev ≡ true
    unfolding load_map
    load_kept v = valid-length (load_map m s program) (load_bytes m s program).dev s.dev load-lengths.dev ∙ go (eqb (load_number m s program) 0) refl
      where
        go : (t : Bool) → eqb (load_number m s program) 0 ≡ t → valid (cond t (with_region m (region 0 (length program))) m) s.dev ≡ true
        go true a = region-kept m e s.dev v (region 0 (length program)) (load-taken a)
        go false a = v

  module _ (v : valid m s.dev ≡ true) where
    -- after its words a load of a valid map is refused with 13 alone
    pub load-last : begins m program ≡ true → (store_words m s 0 program).all ≡ true → load_number m s program ≡ cond (any (regions_overlap (region 0 (length program))) (used_regions m)) 13 0
    unfolding load_number load_order begins
    load-last b g =
        let h = both (leb (length program) 32768) (ltb m.regions 8) b in
        rw (v, le-ltb 32768 (length program) (leb-true (length program) 32768 h.0), lt-leb 8 m.regions (ltb-true m.regions 8 h.1), g)

    -- it begins exactly where the answer is neither 16 nor 14, since none of the later answers is
    pub begins-by-number : begins m program ≡ past (load_number m s program)
    unfolding load_number load_order begins
    begins-by-number = go (leb (length program) 32768) (ltb m.regions 8) (store_words m s 0 program).all (any (regions_overlap (region 0 (length program))) (used_regions m)) refl refl refl refl
      where
        go : (t u w x : Bool) → leb (length program) 32768 ≡ t → ltb m.regions 8 ≡ u → (store_words m s 0 program).all ≡ w
            → any (regions_overlap (region 0 (length program))) (used_regions m) ≡ x → begins m program ≡ past (load_number m s program)
        go false u w x a b g k = rw (v, lt-ltb 32768 (length program) (leb-false (length program) 32768 a), a)
        go true false w x a b g k =
            rw (v, le-ltb 32768 (length program) (leb-true (length program) 32768 a), le-leb 8 m.regions (ltb-false m.regions 8 b), a, b)
        go true true false x a b g k =
            rw (v, le-ltb 32768 (length program) (leb-true (length program) 32768 a), lt-leb 8 m.regions (ltb-true m.regions 8 b), a, b, g)
        go true true true true a b g k =
            rw (v, le-ltb 32768 (length program) (leb-true (length program) 32768 a), lt-leb 8 m.regions (ltb-true m.regions 8 b), a, b, g, k)
        go true true true false a b g k =
            rw (v, le-ltb 32768 (length program) (leb-true (length program) 32768 a), lt-leb 8 m.regions (ltb-true m.regions 8 b), a, b, g, k)
