-- What is left of words and table once a text's lines are done: the answer counts what is kept of each, so cleared from there on each is what the outcome has, and zeros. Assumes nothing.
use Prim.Native.Nat.{ℕ}
use lib.ListN.{length, take, replicate, length-replicate}
use mathlib.Core.Bool.{Bool}
use mathlib.Core.List.{List}
use mathlib.Core.Path.{◌≡◌, ◌∙◌, ap}
use Rattle.labels.specs.declared.Label.{Label}
use Rattle.asm.specs.Assemble.{Outcome, outcome, filled, words_of, labels_left, report, reported}
use Rattle.asm.specs.Views.{EndedWith, word_count, label_count}
use Rattle.asm.specs.declared.Totals.{Totals}
use Rattle.asm.specs.declared.Fault.{Fault}
use Rattle.std.specs.Prelude.{Result}
use Rattle.table.specs.Table as Table

module _ (a : Result Totals Fault) (ws : List ℕ) (ls : List Label) (o : Outcome) (end : EndedWith a ws ls o) where
  -- cleared from the k-th on, where the answer counts k
  pub words-cleared : (n k : ℕ) (zs : List ℕ) → length ws ≡ n → k ≡ word_count a → zs ≡ filled (length ws) (take k ws) → zs ≡ filled n (words_of o)
  words-cleared n k zs l c e =
      e ∙ ap (λ (m : ℕ). filled (length ws) (take m ws)) c ∙ ap (filled (length ws)) end.words-end ∙ ap (λ (m : ℕ). filled m (words_of o)) l

  pub labels-cleared : (n k : ℕ) (zs : List Label) → length ls ≡ n → k ≡ label_count a → zs ≡ Table.filled (length ls) (take k ls) → zs ≡ Table.filled n (labels_left o)
  labels-cleared n k zs l c e =
      e ∙ ap (λ (m : ℕ). Table.filled (length ls) (take m ls)) c ∙ ap (Table.filled (length ls)) end.labels-end ∙ ap (λ (m : ℕ). Table.filled m (labels_left o)) l

-- a table of n times one entry has room for n labels
module _ (strict : Bool) (text : List ℕ) (room n : ℕ) (l : Label) where
  pub same_outcome : outcome strict text room (length (replicate n l)) ≡ outcome strict text room n
  same_outcome = ap (outcome strict text room) (length-replicate n l)

  pub report-of : (a : Result Totals Fault) → reported a ≡ report (outcome strict text room (length (replicate n l))) → reported a ≡ report (outcome strict text room n)
  report-of a e = e ∙ ap report same_outcome

  pub words-of : (zs : List ℕ) → zs ≡ filled room (words_of (outcome strict text room (length (replicate n l)))) → zs ≡ filled room (words_of (outcome strict text room n))
  words-of zs e = e ∙ ap (λ (o : Outcome). filled room (words_of o)) same_outcome
