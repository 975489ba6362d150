-- A state is read back from its block, and a block is written back from its state: each part stands where it is read from. Assumes nothing.
use Prim.Native.Nat.{ℕ, zero, suc, ◌+◌, ◌*◌, ◌<◌, ◌≤◌}
use mathlib.Core.Path.{◌≡◌, refl, sym, ap, ◌∙◌}
use mathlib.Core.Bool.{Bool, true, false}
use mathlib.Core.List.{List, [], ◌∷◌, ◌++◌, append_assoc}
use lib.Dec.{eqb, leb}
use lib.ListN.{length, get_or, take, drop, length-append, length-drop}
use lib.Seq.{get_or-drop, drop-drop, drop_at, drop-cons, take-add, take_all}
use borrow.Author.Tests.{eqb-true, leb-true, eq-eqb}
use native.Mathlib.Nat.{mod-add-div}
use native.Mathlib.Omega.{arith}
use Rattle.base.specs.Words.{low_of}
use Rattle.wordbytes.specs.Words.{bytes_of, word_at, words_from, are_bytes}
use Rattle.wordbytes.proofs.Laws.{length-bytes, length-words, words_back, bytes_pair, are_at, are-rest, bytes-front}
use Rattle.wordbytes.proofs.Parts.{words-none, words-pair}
use Rattle.map.proofs.Laws.{few-regions, few-devices}
use Rattle.base.proofs.Tests.{and_left, and_right}
use Rattle.map.proofs.KeptLaws.{Eight}
use Rattle.machine.proofs.StateLaws.{valid-tables}
use Rattle.journal.specs.States.{state, valid}
use Rattle.journal.specs.declared.State.{State}
use Rattle.journal.proofs.StateLaws.{valid-machine}
use Rattle.map.specs.Entries.{region, device}
use Rattle.map.specs.declared.Region.{Region}
use Rattle.map.specs.declared.Device.{Device}
use Rattle.block.specs.Entries.{entry_words, entries_from, Pairs}
use Rattle.block.specs.Block.{region_words, device_words, flag, packed, regions_from, devices_from, unpacked, is_block}
use Rattle.block.specs.Pairs.{region_pairs, device_pairs}
use Rattle.block.proofs.Tables.{table-length, table-count, table-shift, table-back, table-words}

-- a state whose three arrays have eight entries, as the code's have
pub record Shaped (s : State) : Type 0 where
  pub registers : length s.machine.registers.value ≡ 8
  pub tables : Eight s.machine.map

-- ---- lengths

module _ (s : State) (e : Shaped s) where
  pub length-registers : length (bytes_of s.machine.registers.value) ≡ 16
  length-registers = length-bytes s.machine.registers.value ∙ ap (λ (k : ℕ). 2 * k) e.registers

  pub length-regions : length (bytes_of (region_words s.machine.map.region)) ≡ 32
  length-regions = table-length (λ (r : Region). r.start) (λ (r : Region). r.len) s.machine.map.region e.tables.regions

  pub length-devices : length (bytes_of (device_words s.machine.map.device)) ≡ 32
  length-devices = table-length (λ (d : Device). d.start) (λ (d : Device). d.end) s.machine.map.device e.tables.devices

  pub length-packed : length (packed s) ≡ 87
  unfolding packed
  length-packed =
      let a = bytes_of s.machine.registers.value in
      let x = flag s.machine.mode.debug ∷ low_of s.machine.map.regions ∷ bytes_of (region_words s.machine.map.region) in
      let y = low_of s.machine.map.devices ∷ bytes_of (device_words s.machine.map.device) in
      let z = bytes_of (s.next ∷ s.held ∷ []) in
      omega (
        arith,
        length-append (a ++ x ++ y) z,
        length-append (a ++ x) y,
        length-append a x,
        length-registers,
        length-regions,
        length-devices,
        length-bytes (s.next ∷ s.held ∷ []),
      )

-- ---- a state from the parts of a block

-- its registers, its debug byte and what follows, its devices and what follows, its end
abbrev parted : List ℕ → List ℕ → List ℕ → List ℕ → State
parted g x y z =
    state
    (record {
      registers = record { value = words_from 8 g };
      mode = record { debug = eqb (get_or x 0 0) 1 };
      map = record { regions = get_or x 1 0; region = regions_from 8 (drop 2 x) 0; devices = get_or y 0 0; device = devices_from 8 (drop 1 y) 0 };
    })
    (word_at z 0) (word_at z 2)

unpacked-parted : (b : List ℕ) → unpacked b ≡ parted b (drop 16 b) (drop 50 b) (drop 83 b)
unfolding unpacked
unpacked-parted b =
    let r : regions_from 8 (drop 18 b) 0 ≡ regions_from 8 b 18 = table-shift region 8 18 0 b in
    let d : devices_from 8 (drop 51 b) 0 ≡ devices_from 8 b 51 = table-shift device 8 51 0 b in
    simp (get_or-drop, drop-drop, r, d)

-- ---- a state's block, unpacked

flag-back : (t : Bool) → eqb (flag t) 1 ≡ t
flag-back true = refl
flag-back false = refl

low-back : (n : ℕ) → n < 256 → low_of n ≡ n
low-back n h = omega arith

module _ (s : State) (e : Shaped s) where
  abbrev registers : List ℕ
  registers = bytes_of s.machine.registers.value

  abbrev regions : List ℕ
  regions = bytes_of (region_words s.machine.map.region)

  abbrev devices : List ℕ
  devices = bytes_of (device_words s.machine.map.device)

  abbrev last : List ℕ
  last = bytes_of (s.next ∷ s.held ∷ [])

  -- from 50 on, and from 16 on
  abbrev from-devices : List ℕ
  from-devices = low_of s.machine.map.devices ∷ devices ++ last

  abbrev from-debug : List ℕ
  from-debug = flag s.machine.mode.debug ∷ low_of s.machine.map.regions ∷ regions ++ from-devices

  packed-flat : packed s ≡ registers ++ from-debug
  unfolding packed
  packed-flat =
      let x = flag s.machine.mode.debug ∷ low_of s.machine.map.regions ∷ regions in
      let y = low_of s.machine.map.devices ∷ devices in
      append_assoc (registers ++ x) y last ∙ append_assoc registers x (y ++ last)

  at-debug : drop 16 (packed s) ≡ from-debug
  at-debug = rw packed-flat (drop_at registers from-debug 16 (length-registers s e))

  at-devices : drop 50 (packed s) ≡ from-devices
  at-devices = sym (drop-drop 34 16 (packed s)) ∙ rw at-debug (drop_at regions from-devices 32 (length-regions s e))

  at_last : drop 83 (packed s) ≡ last
  at_last = sym (drop-drop 33 50 (packed s)) ∙ rw at-devices (drop_at devices last 32 (length-devices s e))

  registers-in : words_from 8 (packed s) ≡ s.machine.registers.value
  registers-in = ap (λ (n : ℕ). words_from n (packed s)) (sym e.registers) ∙ rw packed-flat (words_back s.machine.registers.value from-debug)

  regions-in : regions_from 8 (regions ++ from-devices) 0 ≡ s.machine.map.region
  regions-in = ap (λ (n : ℕ). regions_from n (regions ++ from-devices) 0) (sym e.tables.regions) ∙ table-back region_pairs s.machine.map.region from-devices

  devices-in : devices_from 8 (devices ++ last) 0 ≡ s.machine.map.device
  devices-in = ap (λ (n : ℕ). devices_from n (devices ++ last) 0) (sym e.tables.devices) ∙ table-back device_pairs s.machine.map.device last

  pub unpack-pack : s.machine.map.regions < 256 → s.machine.map.devices < 256 → unpacked (packed s) ≡ s
  unpack-pack h k =
      unpacked-parted (packed s)
      ∙ rw (
        registers-in,
        at-debug,
        at-devices,
        at_last,
        regions-in,
        devices-in,
        bytes_pair s.next s.held [],
        flag-back s.machine.mode.debug,
        low-back s.machine.map.regions h,
        low-back s.machine.map.devices k,
        mod-add-div s.next 256,
        mod-add-div s.held 256,
      )

  pub packed-block : is_block (packed s) ≡ true
  unfolding is_block
  packed-block =
      let d : get_or (packed s) 16 0 ≡ flag s.machine.mode.debug = sym (get_or-drop 16 (packed s) 0 0) ∙ ap (λ (l : List ℕ). get_or l 0 0) at-debug in
      rw (eq-eqb (length (packed s)) 87 (length-packed s e), d) (flag_small s.machine.mode.debug)
    where
      flag_small : (t : Bool) → leb (flag t) 1 ≡ true
      flag_small true = refl
      flag_small false = refl

-- a valid state has at most eight regions and eight devices, so its counts fit
pub valid-back : (s : State) (dev journal : List ℕ) → Shaped s → valid s dev journal ≡ true → unpacked (packed s) ≡ s
valid-back s dev journal e v =
    let m = s.machine.map in
    let t = sym (valid-tables s.machine dev) ∙ valid-machine s dev journal v in
    unpack-pack s e (omega (arith, few-regions m dev t)) (omega (arith, few-devices m dev t))

pub unpacked-shaped : (b : List ℕ) → Shaped (unpacked b)
unfolding unpacked
unpacked-shaped b = record {
  registers = length-words 8 b;
  tables = record { regions = table-count region 8 18 b; devices = table-count device 8 51 b };
}

-- ---- a block's state, packed

module _ (b : List ℕ) (h : is_block b ≡ true) where
  pub block-length : length b ≡ 87
  unfolding is_block
  block-length = eqb-true (length b) 87 (and_left (eqb (length b) 87) (leb (get_or b 16 0) 1) h)

  block-debug : get_or b 16 0 ≤ 1
  unfolding is_block
  block-debug = leb-true (get_or b 16 0) 1 (and_right (eqb (length b) 87) (leb (get_or b 16 0) 1) h)

flag-of : (x : ℕ) → x ≤ 1 → flag (eqb x 1) ≡ x
flag-of zero h = refl
flag-of (suc x) h = let z : x ≡ 0 = omega arith in rw z

module _ (b : List ℕ) (h : is_block b ≡ true) (t : are_bytes b ≡ true) where
  -- words from byte i on
  words-at : (n i : ℕ) → i + 2 * n ≤ 87 → bytes_of (words_from n (drop i b)) ≡ take (2 * n) (drop i b)
  words-at n i g = bytes-front n (drop i b) (omega (arith, length-drop i b, block-length b h)) (are-rest i b t)

  table_at : {E : Type 0} {one two : E → ℕ} {of : ℕ → ℕ → E} → Pairs one two of → (i : ℕ) → i + 32 ≤ 87
      → bytes_of (entry_words one two (entries_from of 8 b i)) ≡ take 32 (drop i b)
  table_at {E} {one} {two} {of} t i g =
      let z : i + 0 ≡ i = omega arith in
      let f : entries_from of 8 (drop i b) 0 ≡ entries_from of 8 b i = table-shift of 8 i 0 b ∙ ap (entries_from of 8 b) z in
      ap (λ (l : List E). bytes_of (entry_words one two l)) (sym f) ∙ ap bytes_of (table-words t 8 (drop i b)) ∙ words-at 16 i g

  regions-at : bytes_of (region_words (regions_from 8 b 18)) ≡ take 32 (drop 18 b)
  regions-at = table_at region_pairs 18 (omega arith)

  devices-at : bytes_of (device_words (devices_from 8 b 51)) ≡ take 32 (drop 51 b)
  devices-at = table_at device_pairs 51 (omega arith)

  last-at : bytes_of (word_at b 83 ∷ word_at b 85 ∷ []) ≡ take 4 (drop 83 b)
  last-at =
      let f : words_from 2 (drop 83 b) ≡ word_at b 83 ∷ word_at b 85 ∷ [] = simp (words-pair 0 (drop 83 b), words-none, get_or-drop) in
      ap bytes_of (sym f) ∙ words-at 2 83 (omega arith)

  -- 16 to 49, and 50 to 82
  debug-at : take 34 (drop 16 b) ≡ get_or b 16 0 ∷ get_or b 17 0 ∷ take 32 (drop 18 b)
  debug-at =
      let p : 16 < length b = omega (arith, block-length b h) in
      let q : 17 < length b = omega (arith, block-length b h) in
      ap (take 34) (drop-cons b 16 0 p) ∙ ap (λ (l : List ℕ). get_or b 16 0 ∷ take 33 l) (drop-cons b 17 0 q)

  count_at : take 33 (drop 50 b) ≡ get_or b 50 0 ∷ take 32 (drop 51 b)
  count_at =
      let p : 50 < length b = omega (arith, block-length b h) in
      ap (take 33) (drop-cons b 50 0 p)

  pub pack-unpack : packed (unpacked b) ≡ b
  unfolding packed unpacked
  pack-unpack =
      rw (
        words-at 8 0 (omega arith),
        regions-at,
        devices-at,
        last-at,
        flag-of (get_or b 16 0) (block-debug b h),
        low-back (get_or b 17 0) (are_at b 17 t),
        low-back (get_or b 50 0) (are_at b 50 t),
        sym debug-at,
        sym count_at,
        sym (take-add 16 34 b),
        sym (take-add 50 33 b),
        sym (take-add 83 4 b),
      )
      (take_all 87 b (omega (arith, block-length b h)))
