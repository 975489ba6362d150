-- The bytes before the read's own stay, and those that it gave come after them. Assumes nothing.
use Rattle.std.proofs.Common.{◌≡◌, ℕ, ◌+◌, ◌-◌, ◌≤◌, List, ◌++◌, rules, length, take, drop, sym, ap, ◌∙◌, subst, le_refl, drop_at, length-take-le}
use Rattle.std.proofs.lemmas.Slice.{take-put_mid_below}
use Rattle.std.specs.Io.KnownBytes.{Consumes}
use Rattle.std.proofs.KnownBytes.{Consumes-trans}
use borrow.Rule.Slice.PartMut.{put_mid, post_of}
use lib.Seq.{take-append-le, take-add}
use Rattle.inputs.proofs.read_full.Goals as goal

-- n bytes that were put from a on, after what stood before
after_part : (a n : ℕ) (xs ys : List ℕ) → a ≤ length xs → n ≤ length ys → take a xs ++ take n ys ≡ take (a + n) (put_mid a (length xs - a) xs ys)
after_part a n xs ys within fits =
    let all = put_mid a (length xs - a) xs ys in
    let after = post_of a (length xs - a) xs in
    let front : take a all ≡ take a xs = take-put_mid_below _ _ _ _ _ (le_refl _) within in
    let back : take n (drop a all) ≡ take n ys = ap (take n) (drop_at (take a xs) (ys ++ after) a (length-take-le a xs within)) ∙ take-append-le n ys after fits in
    sym (take-add a n all ∙ rw (front, back))

pub loop-done-preserved : goal.loop-done-preserved
loop-done-preserved g c =
    let done = c.loop-done.done in
    let before = c.loop-done.invariant in
    record {
      within = search rules;
      same_length = search rules;
      given = subst (Consumes _ _) (after_part done c.in_ok-n.n c.loop-done.buf c.read.new.buf before.within c.in_ok-n.ensures.bound.0) (Consumes-trans _ _ _ _ _ before.given c.in_ok-n.ensures.bytes.0);
    }
