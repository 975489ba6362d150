-- An answer of the assembler and the words that it left tell its outcome, so that what is shown of them is the listing. Assumes nothing.
use mathlib.Core.Path.{◌≡◌, refl}
use mathlib.Core.Bool.{true}
use mathlib.Core.List.{List}
use Prim.Native.Nat.{ℕ, ◌≤◌, ◌<◌, zero-le}
use native.Mathlib.Omega.{arith}
use borrow.Author.Tests.{le-leb, lt-leb}
use lib.ListN.{length, take}
use Rattle.std.specs.Prelude.{Result, Ok, Err}
use Rattle.base.specs.Numbers.{number_of}
use Rattle.base.specs.declared.refusals.Refusal.TheVariants.{NoRoom}
use Rattle.asm.specs.declared.Totals.{Totals}
use Rattle.asm.specs.declared.Fault.{Fault}
use Rattle.asm.specs.Work.{task}
use Rattle.asm.specs.Assemble.{Outcome, accepted, refused, assemble, words_of, filled, report, reported}
use Rattle.asm.proofs.FillLaws.{filled-first, filled-length}
use Rattle.lister.specs.Listing.{shown, outcome, listing}
use Rattle.asm.specs.Views.{word_count}
use Rattle.lister.specs.Parts.{Tells, shown_of}

-- ---- what the assembler tells

pub tells-19 : (source : List ℕ) {words : List ℕ} → 65536 < length source → Tells (Err (record { refusal = NoRoom; line = 0 })) words (outcome source)
unfolding outcome
tells-19 source h = rw (lt-leb (length source) 65536 h) (record { answer = refl; first = refl; room = zero-le })

pub tells : (source : List ℕ) {words : List ℕ} (a : Result Totals Fault) (room labels : ℕ) → length source ≤ 65536 → room ≡ 32767 → labels ≡ 1024
    → reported a ≡ report (assemble (task true source room labels)) → words ≡ filled room (words_of (assemble (task true source room labels)))
    → Tells a words (outcome source)
unfolding outcome
tells source a room labels h r l e f = rw (le-leb (length source) 65536 h, ← r, ← l, f) (record {
  answer = e;
  first = filled-first room (words_of (assemble (task true source room labels)));
  room = filled-length room (words_of (assemble (task true source room labels)));
})

-- ---- what is shown of it

told-shown : (a : Result Totals Fault) (o : Outcome) (words : List ℕ) → reported a ≡ report o → take (length (words_of o)) words ≡ words_of o → shown_of a words ≡ shown o
told-shown (Ok t) (accepted w) words e f =
    let size : t.words ≡ length w.words = cc in
    let waiting : t.waiting ≡ length w.waiting = cc in
    rw (size, waiting, f)
told-shown (Ok t) (refused k l) words e f = absurd (let z : ◌≡◌ {A = ℕ} 0 1 = cc in omega arith)
told-shown (Err q) (accepted w) words e f = absurd (let z : ◌≡◌ {A = ℕ} 0 1 = cc in omega arith)
told-shown (Err q) (refused k l) words e f =
    let number : number_of q.refusal ≡ k = cc in
    let place : q.line ≡ l = cc in
    rw (number, place)

told-count : (a : Result Totals Fault) (o : Outcome) → reported a ≡ report o → word_count a ≡ length (words_of o)
told-count (Ok t) (accepted w) e = cc
told-count (Ok t) (refused k l) e = absurd (let z : ◌≡◌ {A = ℕ} 0 1 = cc in omega arith)
told-count (Err q) (accepted w) e = absurd (let z : ◌≡◌ {A = ℕ} 0 1 = cc in omega arith)
told-count (Err q) (refused k l) e = refl

pub words-within : (source words : List ℕ) (a : Result Totals Fault) → Tells a words (outcome source) → word_count a ≤ length words
words-within source words a t = rw (told-count a (outcome source) t.answer) t.room

pub shown-listing : (source words : List ℕ) (a : Result Totals Fault) → Tells a words (outcome source) → shown_of a words ≡ listing source
unfolding listing
shown-listing source words a t = told-shown a (outcome source) words t.answer t.first
