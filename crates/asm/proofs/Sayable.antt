-- Whatever a text means can be said by a line: what a line of it says can, and so can what a reference becomes. Assumes nothing.
use Prim.Native.Nat.{ℕ, ◌+◌}
use mathlib.Core.Path.{◌≡◌}
use mathlib.Core.Bool.{Bool, true, false}
use mathlib.Core.List.{List, [], ◌∷◌}
use lib.Dec.{eqb, ltb}
use lib.ListN.{length}
use Rattle.base.specs.Choice.{cond}
use Rattle.base.specs.Told.{Told, is, no}
use Rattle.base.specs.Words.{doubled}
use Rattle.instruction.specs.Fits.{sayable}
use Rattle.text.specs.Parts.{is_blank, run, drop_front, drop_end}
use Rattle.text.specs.Tokens.{tokens}
use Rattle.text.specs.Lines.{lines}
use Rattle.parser.specs.declared.Reference.{Reference}
use Rattle.parser.specs.Answers.{Meaning}
use Rattle.parser.specs.Answers as Parse
use Rattle.parser.specs.Parse.{parse}
use Rattle.parser.proofs.SayLaws.{Can, parse-can, resolved-can}
use Rattle.labels.specs.declared.Label.{Label}
use Rattle.labels.specs.Labels as Labels
use Rattle.asm.specs.Labels.{part}
use Rattle.asm.specs.Reading.{Item, skip, label, says, refers, said, name_in, read_trimmed, read}
use Rattle.asm.specs.Meaning.{Meant, instruction, never, placed, items_from, latest, later, either, refer, meant, meaning}

-- ---- a line

-- where it says an instruction, that can be said
abbrev Says : Told Item → Type 0
Says (is skip) = Unit {0}
Says (is (label start size)) = Unit {0}
Says (is (says i)) = sayable i ≡ true
Says (is (refers r start size)) = Unit {0}
Says (no n) = Unit {0}

said-can : (at : ℕ) (line : List ℕ) (m : Told Meaning) → Can m → Says (said at line m)
said-can at line (is (Parse.says i)) h = h
said-can at line (is (Parse.refers r name)) h = tt
said-can at line (no n) h = tt

trimmed-can : (at : ℕ) (line : List ℕ) → Says (read_trimmed at line)
trimmed-can at [] = tt
trimmed-can at (x ∷ xs) = go (eqb x 59) (ltb (length (name_in (x ∷ xs))) (length (x ∷ xs)))
  where
    go : (t u : Bool) → Says (cond t (is skip) (cond u (is (label at (length (name_in (x ∷ xs))))) (said at (x ∷ xs) (parse (tokens (x ∷ xs))))))
    go true u = tt
    go false true = tt
    go false false = said-can at (x ∷ xs) (parse (tokens (x ∷ xs))) (parse-can (tokens (x ∷ xs)))

read-can : (line : List ℕ) → Says (read line)
unfolding read
read-can line = trimmed-can (run is_blank line) (drop_end is_blank (drop_front is_blank line))

-- ---- all that a text means

-- each of its instructions can be said
abbrev pub AllCan : List Meant → Type 0
AllCan [] = Unit {0}
AllCan (instruction i ∷ ms) = (sayable i ≡ true) × AllCan ms
AllCan (never ∷ ms) = AllCan ms

refer-can : (r : Reference) (x : Told ℕ) (ms : List Meant) → AllCan ms → AllCan (refer r x ∷ ms)
refer-can r (is a) ms h = (resolved-can r a, h)
refer-can r (no n) ms h = h

meant-can : (text : List ℕ) (at : ℕ) (ls : List (List ℕ)) (before : List Label) (n : ℕ) → AllCan (meant text before n (items_from at ls))
meant-can text at [] before n = tt
meant-can text at (l ∷ ls) before n = go (read l) (read-can l) (meant-can text (at + length l + 1) ls)
  where
    rest : List Item
    rest = items_from (at + length l + 1) ls

    go : (r : Told Item) → Says r → ((b : List Label) (k : ℕ) → AllCan (meant text b k rest)) → AllCan (meant text before n (placed at r ∷ rest))
    go (is skip) h ih = ih before n
    go (is (label start size)) h ih = ih (Labels.label (at + start) size (doubled n) ∷ before) n
    go (is (says i)) h ih = (h, ih before (n + 1))
    go (is (refers r start size)) h ih =
        let name = part text (at + start) size in
        refer-can r (either (latest text name before) (later text name (n + 1) rest)) (meant text before (n + 1) rest) (ih before (n + 1))
    go (no k) h ih = ih before n

pub meaning-can : (text : List ℕ) → AllCan (meaning text)
unfolding meaning
meaning-can text = meant-can text 0 (lines text) [] 0
