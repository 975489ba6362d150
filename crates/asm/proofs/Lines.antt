-- What reading gives for a line made of plain tokens, and for a plain name with a colon behind it: trimming takes nothing from either, the
-- colon alone is no part of the name, and the tokens of a line are those that it is made of. Assumes nothing.
use Prim.Native.Nat.{ℕ, ◌+◌, ◌<◌}
use mathlib.Core.Path.{◌≡◌, refl, sym, ap, ◌∙◌}
use mathlib.Core.Bool.{true}
use mathlib.Core.List.{List, [], ◌∷◌, ◌++◌}
use native.Mathlib.Omega.{arith}
use borrow.Author.Tests.{lt-ltb, le-ltb}
use lib.Dec.{ltb}
use lib.ListN.{length, drop, length-append}
use lib.Seq.{take-append_seam}
use Rattle.base.specs.Choice.{cond}
use Rattle.base.specs.Told.{is}
use Rattle.base.proofs.ToldLaws.{is-not-no}
use Rattle.instruction.specs.declared.Instruction.{Instruction}
use Rattle.text.specs.Parts.{is_blank, run, drop_end, equals}
use Rattle.text.specs.Tokens.{tokens, token_at, first, second_start}
use Rattle.text.proofs.JoinedLaws.{joined, is_plain, every, every-parts, Plains, plain-black, plain-colon, plain-semicolon, tokens-joined, end_kept, end-front, joined-kept, colon-kept, headed}
use Rattle.text.proofs.PartLaws.{snoc-drops}
use Rattle.text.proofs.TokenLaws.{second-part}
use Rattle.parser.specs.declared.Reference.{Reference}
use Rattle.parser.specs.Answers as Answers
use Rattle.parser.specs.Parse.{parse}
use Rattle.parser.proofs.Laws.{parse-blank}
use Rattle.asm.specs.Labels.{part}
use Rattle.asm.specs.Named.{label, refers, name_told, name_line}
use Rattle.asm.specs.Named as Named
use Rattle.asm.specs.Reading.{says, said, name_in, read}
use Rattle.asm.specs.Reading as Reading

-- a line that starts with a plain byte, and of which trimming takes nothing
whole : (x : ℕ) (xs l : List ℕ) → l ≡ x ∷ xs → is_plain x ≡ true → drop_end is_blank l ≡ l →
    read l ≡ cond (ltb (length (name_in l)) (length l)) (is (Reading.label 0 (length (name_in l)))) (said 0 l (parse (tokens l)))
unfolding read
whole x xs l e p k =
    let b : run is_blank l ≡ 0 = rw (e, plain-black x p) in
    rw (b, k) (rw (e, plain-semicolon x p))

-- ---- tokens

-- a line that is made of tokens is what these say
pub read-joined : (t : List ℕ) (ts : List (List ℕ)) → Plains (t ∷ ts) → read (joined (t ∷ ts)) ≡ said 0 (joined (t ∷ ts)) (parse (t ∷ ts))
read-joined t ts h =
    let l = joined (t ∷ ts) in
    let f = headed t ts h in
    whole f.head f.tail l f.is f.plain (joined-kept is_blank plain-black (t ∷ ts) h) ∙
    rw (joined-kept (equals 58) plain-colon (t ∷ ts) h, le-ltb (length l) (length l) (omega arith), tokens-joined (t ∷ ts) h)

pub says-joined : (ts : List (List ℕ)) (i : Instruction) → Plains ts → parse ts ≡ is (Answers.says i) → read (joined ts) ≡ is (says i)
says-joined [] i h e = is-not-no (Answers.says i) 23 (sym e ∙ parse-blank)
says-joined (t ∷ ts) i h e = read-joined t ts h ∙ ap (said 0 (joined (t ∷ ts))) e

-- such a line by its name: the instruction, or a reference to its second token
pub says-name : (l : List ℕ) (i : Instruction) → read l ≡ is (says i) → name_line l ≡ Named.says i
says-name l i e = ap (name_told l) e

pub refers-joined : (m name : List ℕ) (r : Reference) → Plains (m ∷ name ∷ []) → parse (m ∷ name ∷ []) ≡ is (Answers.refers r name) →
    name_line (joined (m ∷ name ∷ [])) ≡ refers r name
refers-joined m name r h e =
    let l = joined (m ∷ name ∷ []) in
    let s : token_at l 1 ≡ name = ap (λ (ts : List (List ℕ)). first (drop 1 ts)) (tokens-joined (m ∷ name ∷ []) h) in
    let z : 0 + second_start l ≡ second_start l = omega arith in
    ap (name_told l) (read-joined m (name ∷ []) h ∙ ap (said 0 l) e) ∙
    ap (refers r) (ap (λ (at : ℕ). part l at (length name)) z ∙ sym (rw s at (second-part l)))

-- ---- a label

pub label-line : (x : ℕ) (xs : List ℕ) → every is_plain (x ∷ xs) ≡ true → read ((x ∷ xs) ++ 58 ∷ []) ≡ is (Reading.label 0 (length (x ∷ xs)))
label-line x xs e =
    let l = (x ∷ xs) ++ 58 ∷ [] in
    let n : name_in l ≡ x ∷ xs = snoc-drops (equals 58) (x ∷ xs) 58 refl ∙ end_kept (equals 58) plain-colon x xs e in
    let k : length (x ∷ xs) < length l = omega (arith, length-append xs (58 ∷ [])) in
    whole x (xs ++ 58 ∷ []) l refl (every-parts is_plain x xs e).0 (end-front is_blank (x ∷ xs) (58 ∷ []) (omega arith) colon-kept) ∙
    rw (n, lt-ltb (length (x ∷ xs)) (length l) k)

pub label-name : (x : ℕ) (xs : List ℕ) → every is_plain (x ∷ xs) ≡ true → name_line ((x ∷ xs) ++ 58 ∷ []) ≡ label (x ∷ xs)
label-name x xs e =
    let l = (x ∷ xs) ++ 58 ∷ [] in
    ap (name_told l) (label-line x xs e) ∙ ap label (take-append_seam (x ∷ xs) (58 ∷ []))
