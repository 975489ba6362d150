-- The word goes after the first words where there is room, and the first words are then one more. Assumes nothing.
use mathlib.Core.Path.{sym}
use Rattle.asm.proofs.WordLaws.{add-word-full, add-word-most, add-word-next}
use Rattle.asm.proofs.words.add_word.Goals.{else-i-words-via-then-i-words+else-at-lt32767, else-i-words-via-else-i-words}
use Rattle.asm.proofs.words.add_word.Goals as goal

pub returns-then-at-lt32767-clause-words_after : goal.returns-then-at-lt32767-clause-words_after
returns-then-at-lt32767-clause-words_after c = sym (add-word-next c.args.words.now c.args.at.0 c.args.w c.requires c.if-i-words.true c.if-at-lt32767.true)

pub returns-clause-words_after : goal.returns-clause-words_after
returns-clause-words_after c = elim c.else-i-words.branch [ else-i-words-via-then-i-words+else-at-lt32767 w ↦ sym (add-word-most c.args.words.now c.args.at.0 c.args.w c.requires w.if-i-words.true w.if-at-lt32767.false) | else-i-words-via-else-i-words w ↦ sym (add-word-full c.args.words.now c.args.at.0 c.args.w c.requires w.if-i-words.false) ]
