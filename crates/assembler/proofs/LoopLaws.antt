-- The loop over a text's lines: what the lines from here on come to, after what was done so far, is what the whole text comes to.
-- It holds before the first line; a line that is done carries it on; a line that is refused, and the text's end, is the outcome.
-- Assumes nothing.
use Prim.Native.Nat.{◌+◌, ◌<◌, ℕ}
use borrow.Author.Tests.{eq-eqb, ne_eqb}
use lib.ListN.{drop, length, take}
use lib.Seq.{length-take-le}
use mathlib.Core.List.{List}
use mathlib.Core.Path.{◌∙◌, ◌≡◌, ap, sym}
use native.Mathlib.Omega.{arith}
use Rattle.std.specs.Prelude.{Ok, Err}
use Rattle.base.specs.Numbers.{number_of}
use Rattle.base.specs.Told.{Told, is, no}
use Rattle.labels.specs.declared.Label.{Label}
use Rattle.labels.specs.declared.Open.{Open}
use Rattle.asm.proofs.LineLaws.{assemble-is}
use Rattle.asm.specs.Assemble.{Outcome, accepted, assemble, assemble_from, counts, labels_left, next_line, refused, report, words_of}
use Rattle.asm.specs.Reading.{read}
use Rattle.asm.specs.Views.{EndedWith, Within, work_of}
use Rattle.asm.specs.Work.{Task, Work, nothing, turn}
use Rattle.asm.specs.declared.Counts.{Counts}
use Rattle.asm.specs.declared.Fault.{Fault}
use Rattle.reader.proofs.LineLaws.{after-line, lines_at}
use Rattle.reader.specs.Reader.{after_line, line_at}
use Rattle.text.specs.Lines.{foreign_line, lines}

module _ (t : Task) where
  -- a text with a byte that is not ASCII is refused where it stands
  pub foreign-first : (foreign_line 1 t.text ≡ 0 → ⊥) → refused 26 (foreign_line 1 t.text) ≡ assemble t
  foreign-first h = rw (assemble-is t, ne_eqb (foreign_line 1 t.text) 0 h)

  pub begun : foreign_line 1 t.text ≡ 0 → assemble_from t (lines t.text) 0 0 nothing ≡ assemble t
  begun e = rw (assemble-is t, eq-eqb (foreign_line 1 t.text) 0 e)

  module _ (at line : ℕ) (w : Work) (h : at < length t.text) where
    abbrev did : Told Work
    did = turn t at (read (line_at t.text at)) w

    abbrev rest : Work → Outcome
    rest = assemble_from t (lines (drop (after_line t.text at) t.text)) (after_line t.text at) (line + 1)

    one-more : assemble_from t (lines (drop at t.text)) at line w ≡ next_line (line + 1) did rest
    one-more =
        ap (λ (ls : List (List ℕ)). assemble_from t ls at line w) (lines_at t.text at h)
        ∙ ap (λ (k : ℕ). next_line (line + 1) did (assemble_from t (lines (drop (after_line t.text at) t.text)) k (line + 1))) (after-line t.text at h)

    pub carried : (w' : Work) → is w' ≡ did → assemble_from t (lines (drop at t.text)) at line w ≡ assemble t → rest w' ≡ assemble t
    carried w' q s = ap (λ (x : Told Work). next_line (line + 1) x rest) q ∙ sym one-more ∙ s

    pub stopped : (k : ℕ) → no k ≡ did → assemble_from t (lines (drop at t.text)) at line w ≡ assemble t → refused k (line + 1) ≡ assemble t
    stopped k q s = ap (λ (x : Told Work). next_line (line + 1) x rest) q ∙ sym one-more ∙ s

-- how an answer stands to what the text comes to
counts-three : (n n' k k' m m' : ℕ) → n ≡ n' → k ≡ k' → m ≡ m' → counts n k m ≡ counts n' k' m'
counts-three n n' k k' m m' e q r = rw (e, q, r)

module _ (words : List ℕ) (labels : List Label) (o : Outcome) where
  pub ended : (n : Counts) (waiting : List Open) → accepted (work_of n words labels waiting) ≡ o → Within n (length words) (length labels) → length waiting ≡ 512 →
      EndedWith (Ok (record { words = n.words.0; labels = n.labels; waiting = n.waiting })) words labels o
  ended n waiting e w l = record {
    answer = counts-three n.words.0 (length (take n.words.0 words)) n.labels (length (take n.labels labels)) n.waiting (length (take n.waiting waiting))
        (sym (length-take-le n.words.0 words w.0)) (sym (length-take-le n.labels labels w.2)) (sym (length-take-le n.waiting waiting (omega (arith, w.3, l)))) ∙ ap report e;
    words-end = ap words_of e;
    labels-end = ap labels_left e;
  }

  pub ended_refused : (f : Fault) → refused (number_of f.refusal) f.line ≡ o → EndedWith (Err f) words labels o
  ended_refused f e = record { answer = ap report e; words-end = ap words_of e; labels-end = ap labels_left e }
