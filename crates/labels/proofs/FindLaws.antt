-- What a search from some entry on has found: the entries that it went past do not have the name. Assumes nothing.
use Prim.Native.Nat.{ℕ, zero, suc, ◌+◌, ◌<◌, suc-le-suc}
use mathlib.Core.Path.{◌≡◌, refl, sym, ap, subst, ◌∙◌}
use mathlib.Core.Bool.{Bool, true, false}
use mathlib.Core.List.{List, [], ◌∷◌}
use native.Mathlib.Nat.{le_of_suc-le-suc, not-suc-le-zero, zero-add}
use native.Mathlib.Numerals.{add-one}
use native.Mathlib.Omega.{arith}
use lib.ListN.{length, get_or}
use Rattle.base.specs.Choice.{cond}
use Rattle.labels.specs.declared.Label.{Label}
use Rattle.labels.specs.declared.Found.{Found}
use Rattle.std.specs.Prelude.{Option, Some, None}
use Rattle.labels.specs.Labels.{is_named, found_at, find_from, find}

-- a search finds an entry, or it does not
clash : {A : Type 0} {i a : ℕ} → ◌≡◌ {A = Option Found} None (Some (found_at i a)) → A
clash e = let z : ◌≡◌ {A = ℕ} 0 1 = cc in absurd (omega arith)

module _ (text name : List ℕ) where
  -- entry k of the list has the name, and none before it
  pub record First (ls : List Label) (k : ℕ) : Type 0 where
    pub lt : k < length ls
    pub named : (d : Label) → is_named text name (get_or ls k d) ≡ true
    pub earlier : (j : ℕ) (d : Label) → j < k → is_named text name (get_or ls j d) ≡ false

  -- a search from entry i on found entry n, the first of these by `past`, with the address a
  record Reached (ls : List Label) (i n a : ℕ) : Type 0 where
    pub past : ℕ
    pub place : n ≡ i + past
    pub first : First ls past
    pub there : (d : Label) → (get_or ls past d).address ≡ a

  here : (l : Label) (ls : List Label) → is_named text name l ≡ true → First (l ∷ ls) 0
  here l ls q = record { lt = omega arith; named = λ d. q; earlier = λ j d h. absurd (not-suc-le-zero h) }

  -- an entry without the name before them moves the others on
  later : (l : Label) (ls : List Label) (k : ℕ) → is_named text name l ≡ false → First ls k → First (l ∷ ls) (suc k)
  later l ls k q f = record { lt = suc-le-suc f.lt; named = f.named; earlier = before }
    where
      before : (j : ℕ) (d : Label) → j < suc k → is_named text name (get_or (l ∷ ls) j d) ≡ false
      before zero d h = q
      before (suc j) d h = f.earlier j d (le_of_suc-le-suc h)

  reached : (ls : List Label) (i n a : ℕ) → find_from text name i ls ≡ Some (found_at n a) → Reached ls i n a
  unfolding find_from
  reached [] i n a e = clash e
  reached (l ∷ ls) i n a e = go (is_named text name l) refl (reached ls (i + 1) n a) e
    where
      go : (t : Bool) → is_named text name l ≡ t → (find_from text name (i + 1) ls ≡ Some (found_at n a) → Reached ls (i + 1) n a) →
          cond t (Some (found_at i l.address)) (find_from text name (i + 1) ls) ≡ Some (found_at n a) → Reached (l ∷ ls) i n a
      go true q ih f =
          let s : found_at i l.address ≡ found_at n a = cc in
          let p : i ≡ n = ap (λ (x : Found). x.index) s in
          let w : l.address ≡ a = ap (λ (x : Found). x.address) s in
          record { past = 0; place = omega arith; first = here l ls q; there = λ d. w }
      go false q ih f =
          let r = ih f in
          record { past = suc r.past; place = omega (arith, r.place, add-one r.past); first = later l ls r.past q r.first; there = r.there }

  pub found : (ls : List Label) (n a : ℕ) → find text name ls ≡ Some (found_at n a) → First ls n
  unfolding find
  found ls n a e = let r = reached ls 0 n a e in subst (First ls) (sym (r.place ∙ zero-add r.past)) r.first

  -- the address is the entry's own
  pub found-address : (ls : List Label) (n a : ℕ) → find text name ls ≡ Some (found_at n a) → (d : Label) → (get_or ls n d).address ≡ a
  unfolding find
  found-address ls n a e d =
      let r = reached ls 0 n a e in
      subst (λ (k : ℕ). (get_or ls k d).address ≡ a) (sym (r.place ∙ zero-add r.past)) (r.there d)

  pub passed : (ls : List Label) (i : ℕ) → find_from text name i ls ≡ None → (j : ℕ) (d : Label) → j < length ls → is_named text name (get_or ls j d) ≡ false
  unfolding find_from
  passed [] i e j d h = absurd (not-suc-le-zero h)
  passed (l ∷ ls) i e j d h = go (is_named text name l) refl (passed ls (i + 1)) e j d h
    where
      go : (t : Bool) → is_named text name l ≡ t → (find_from text name (i + 1) ls ≡ None → (j : ℕ) (d : Label) → j < length ls → is_named text name (get_or ls j d) ≡ false) →
          cond t (Some (found_at i l.address)) (find_from text name (i + 1) ls) ≡ None → (j : ℕ) (d : Label) → j < suc (length ls) → is_named text name (get_or (l ∷ ls) j d) ≡ false
      go true q ih f j d h = clash (sym f)
      go false q ih f zero d h = q
      go false q ih f (suc j) d h = ih f j d (le_of_suc-le-suc h)

-- ---- entry by entry: the first has the name, or the search goes on behind it

abbrev pub behind : Option Found → Option Found
behind None = None
behind (Some f) = Some (found_at (f.index + 1) f.address)

module _ (text name : List ℕ) where
  from_next : (ls : List Label) (i : ℕ) → find_from text name (i + 1) ls ≡ behind (find_from text name i ls)
  unfolding find_from
  from_next [] i = refl
  from_next (l ∷ ls) i = go (is_named text name l) (from_next ls (i + 1))
    where
      go : (t : Bool) → find_from text name (i + 1 + 1) ls ≡ behind (find_from text name (i + 1) ls) →
          cond t (Some (found_at (i + 1) l.address)) (find_from text name (i + 1 + 1) ls) ≡ behind (cond t (Some (found_at i l.address)) (find_from text name (i + 1) ls))
      go true ih = refl
      go false ih = ih

  pub find_none : find text name [] ≡ None
  unfolding find find_from
  find_none = refl

  pub find-here : (l : Label) (ls : List Label) → is_named text name l ≡ true → find text name (l ∷ ls) ≡ Some (found_at 0 l.address)
  unfolding find find_from
  find-here l ls e = rw e

  pub find-behind : (l : Label) (ls : List Label) → is_named text name l ≡ false → find text name (l ∷ ls) ≡ behind (find text name ls)
  unfolding find find_from
  find-behind l ls e = rw e (from_next ls 0)
