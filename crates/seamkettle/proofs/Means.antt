-- What strict assembly promises of words holds of the bytes that a C host gets: words come back from their bytes, the parts of the
-- answer are the counts, and a refusal's code is not 0. Assumes nothing.
use Prim.Native.Nat.{ℕ, ◌/◌, ◌<◌, min}
use mathlib.Core.Path.{◌≡◌, refl, sym, ap, subst, ◌∙◌}
use mathlib.Core.Bool.{Bool, true, false}
use mathlib.Core.List.{List}
use native.Mathlib.Omega.{arith}
use lib.ListN.{length, take}
use Rattle.base.specs.Choice.{cond}
use Rattle.wordbytes.specs.Words.{bytes_of, words_in, even}
use Rattle.wordbytes.proofs.Laws.{words-in-back}
use Rattle.asm.specs.Work.{task, Work}
use Rattle.asm.specs.Meaning.{meaning}
use Rattle.asm.specs.Strict.{AllSay}
use Rattle.asm.specs.Assemble.{Outcome, accepted, refused, outcome, words_of, filled, report}
use Rattle.asm.proofs.FillLaws.{filled-first}
use Rattle.asm.proofs.Refused.{refused-numbers}
use Rattle.asm.proofs.Rooms.{report-most}
use Rattle.asm.proofs.Sound.{strict-sound}
use Rattle.numbers.specs.Answers.{most_lines, assembled_number}
use Rattle.numbers.proofs.Parts.{the_code, the-words, the_open}
use Rattle.seamkettle.specs.Calls.{assembling, assemble_number, assembled_words}
use Rattle.seamkettle.specs.Means.{words_counted, open_counted, Said, MeansFromC}

-- n of the words that are there, of which n were made
words-there : (room n : ℕ) (words : List ℕ) → n ≡ length words → take n (words_in (bytes_of (filled room words))) ≡ words
words-there room n words e = rw (e, words-in-back (filled room words)) (filled-first room words)

module _ (text : List ℕ) (room : ℕ) where
  accepted-said : (w : Work) → outcome true text room 1024 ≡ accepted w → Said text (assembled_number (report (accepted w))) (bytes_of (filled room w.words))
  accepted-said w e code =
      let a = length w.words in
      let b = length w.labels in
      let c = length w.waiting in
      let m = report-most true text room 1024 a b c (ap report e) in
      let small : (a < 65536) × (b < 65536) × (c < 65536) = (omega (arith, m.0), omega (arith, m.1), omega (arith, m.2)) in
      let n = assembled_number (report (accepted w)) in
      let words : words_counted n ≡ a = the-words a b c small.0 small.1 small.2 in
      let waiting : open_counted n ≡ c = the_open a b c small.0 small.1 small.2 in
      let there : take (words_counted n) (words_in (bytes_of (filled room w.words))) ≡ w.words = words-there room (words_counted n) w.words words in
      let sound = strict-sound text room 1024 w e in
      record { says = subst (AllSay (meaning text)) (sym there) sound.says; counts = waiting ∙ sound.counts }

  refused-said : (n line : ℕ) (bytes : List ℕ) → outcome true text room 1024 ≡ refused n line → Said text (assembled_number (report (refused n line))) bytes
  refused-said n line bytes e code =
      let h = refused-numbers (task true text room 1024) n line e in
      absurd (omega (arith, code, h.0, the_code n (min line most_lines) (omega (arith, h.1))))

  outcome-said : (o : Outcome) → outcome true text room 1024 ≡ o → Said text (assembled_number (report o)) (bytes_of (filled room (words_of o)))
  outcome-said (accepted w) e = accepted-said w e
  outcome-said (refused n line) e = refused-said n line (bytes_of (filled room (words_of (refused n line)))) e

pub means-from-c : MeansFromC
unfolding assembling assemble_number assembled_words
means-from-c text words = go (even words)
  where
    o : Outcome
    o = outcome true text (length words / 2) 1024

    go : (t : Bool) → Said text (cond t (assembled_number (report o)) 31) (cond t (bytes_of (filled (length words / 2) (words_of o))) words)
    go true code = outcome-said text (length words / 2) o refl code
    go false code = absurd (omega (arith, code))
