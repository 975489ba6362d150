-- The listing shows what the source's lines say: its words are those of the meaning, and each decodes to what its line means, so each
-- line's text is that instruction's. Assumes nothing.
use Prim.Native.Nat.{ℕ, ◌+◌}
use mathlib.Core.Path.{◌≡◌, refl, ap, subst, ◌∙◌}
use mathlib.Core.Bool.{Bool, true, false}
use mathlib.Core.List.{List, [], ◌∷◌, ◌++◌, map}
use lib.Dec.{leb}
use lib.ListN.{length}
use Rattle.base.specs.Choice.{cond}
use Rattle.base.specs.Told.{is}
use Rattle.instruction.specs.declared.Edition.TheVariants.{First}
use Rattle.instruction.specs.declared.Instruction.TheVariants.{Noop}
use Rattle.instruction.specs.Decode.{decode}
use Rattle.instruction.proofs.RoundTrip.{round_trip}
use Rattle.printer.proofs.Laws.{noop-text, text-some}
use Rattle.asm.specs.Work.{task, Work}
use Rattle.asm.specs.Assemble.{accepted, refused, assemble}
use Rattle.asm.specs.Meaning.{Meant, instruction, never, meaning, word_of, nevers}
use Rattle.asm.specs.Strict.{AllSay}
use Rattle.asm.proofs.Items.{refused-not}
use Rattle.asm.proofs.Slots.{map-length}
use Rattle.asm.proofs.Sound.{words-meant, open-meant, strict-sound}
use Rattle.lister.specs.Listing.{line, lines_from, totals, outcome, listing}
use Rattle.lister.specs.Said.{meant_from, HaveTexts, ListingMeans}

zero-decodes : decode 0 ≡ is Noop
zero-decodes = round_trip Noop refl refl

lines-meant : (i : ℕ) (ms : List Meant) → AllSay ms (map word_of ms) → lines_from i (map word_of ms) ≡ meant_from i ms
unfolding lines_from line meant_from
lines-meant i [] a = refl
lines-meant i (instruction j ∷ ms) a = rw (a.0, lines-meant (i + 1) ms a.1)
lines-meant i (never ∷ ms) a = rw (zero-decodes, noop-text, lines-meant (i + 1) ms a.1)

texts-meant : (ms : List Meant) (ws : List ℕ) → AllSay ms ws → HaveTexts ws
texts-meant [] [] a = tt
texts-meant [] (w ∷ ws) a = absurd a
texts-meant (m ∷ ms) [] a = absurd a
texts-meant (instruction i ∷ ms) (w ∷ ws) a = ((i, (a.0, text-some First i)), texts-meant ms ws a.1)
texts-meant (never ∷ ms) (w ∷ ws) a = ((Noop, (ap decode a.0 ∙ zero-decodes, text-some First Noop)), texts-meant ms ws a.1)

-- a text that is listed was short enough, and assembled
assembles : (source : List ℕ) (w : Work) → outcome source ≡ accepted w → assemble (task true source 32767 1024) ≡ accepted w
unfolding outcome
assembles source w e = go (leb (length source) 65536) e
  where
    go : (t : Bool) → cond t (assemble (task true source 32767 1024)) (refused 19 0) ≡ accepted w → assemble (task true source 32767 1024) ≡ accepted w
    go true q = q
    go false q = refused-not 19 0 w q

pub listing-means : ListingMeans
unfolding listing
listing-means source w e =
    let t = task true source 32767 1024 in
    let q = assembles source w e in
    let ms = meaning source in
    let words = words-meant t w q in
    let said = (strict-sound source 32767 1024 w q).says in
    record {
      lines =
          rw (e, words, open-meant t w q, map-length word_of ms)
          (ap (λ (ls : List ℕ). ls ++ totals (length ms) (nevers ms)) (lines-meant 0 ms (subst (AllSay ms) words said)));
      texts = texts-meant ms w.words said;
    }
