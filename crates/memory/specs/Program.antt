-- `write_program` stores word i at 2i by the store rule, devices included, then protects (0, number of WORDS).
use Rattle.std.specs.Prelude.{ℕ, ◌+◌, Bool, true, false, not, ◌&&◌, List, [], ◌∷◌, leb, ltb, eqb, length}
use Rattle.base.specs.Choice.{cond}
use Rattle.base.specs.Order.{Refusing, ◌when◌, first_of}
use Rattle.base.specs.Words.{doubled}
use Rattle.map.specs.Tables.{any}
use Rattle.map.specs.Regions.{regions_overlap, used_regions}
use Rattle.map.specs.Valid.{valid}
use Rattle.map.specs.Entries.{region, with_region}
use Rattle.map.specs.declared.Map.{Map}
use Rattle.memory.specs.Bytes.{Lent}
use Rattle.memory.specs.Words.{word_stored, store_word, is_done}

-- whether all words were stored, and the bytes then
pub record Words : Type 0 where
  pub all : Bool
  pub bytes : Lent

abbrev pub words : Bool → Lent → Words
words t s = record { all = t; bytes = s }

-- instruction i and those after it, up to the first that is not stored
unfoldable pub store_words : Map → Lent → ℕ → List ℕ → Words
store_words m s i [] = words true s
store_words m s i (w ∷ rest) =
    cond (is_done (word_stored m s (doubled i))) (store_words m (store_word m s (doubled i) w) (i + 1) rest)
    (words false (store_word m s (doubled i) w))

-- load: 16, 14, 15, 13
unfoldable pub load_order : Map → Lent → List ℕ → List Refusing
load_order m s program =
    16 when ltb 32768 (length program)
    ∷ 14 when leb 8 m.regions
    ∷ 15 when not (store_words m s 0 program).all
    ∷ 13 when any (regions_overlap (region 0 (length program))) (used_regions m)
    ∷ []

-- 1 first
unfoldable pub load_number : Map → Lent → List ℕ → ℕ
load_number m s program = first_of (1 when not (valid m s.dev) ∷ load_order m s program)

-- it comes as far as storing the first word: neither 16 nor 14
unfoldable pub begins : Map → List ℕ → Bool
begins m program = leb (length program) 32768 && ltb m.regions 8

-- 15 and 13 keep what was stored
unfoldable pub load_bytes : Map → Lent → List ℕ → Lent
load_bytes m s program = cond (valid m s.dev && begins m program) (store_words m s 0 program).bytes s

-- a refusal leaves the tables
unfoldable pub load_map : Map → Lent → List ℕ → Map
load_map m s program = cond (eqb (load_number m s program) 0) (with_region m (region 0 (length program))) m
