-- What the lines from here on come to, after what was done so far, is what the whole text comes to; no more lines were read than bytes.
-- Assumes nothing.
use Rattle.std.proofs.Common.{◌≡◌, ◌≤◌, length, drop}
use Rattle.asm.specs.Assemble.{assemble, assemble_from}
use Rattle.asm.specs.Views.{Within, work_of}
use Rattle.asm.specs.Work.{task}
use Rattle.text.specs.Lines.{lines}
use Rattle.assembler.proofs.lines.assemble_lines.Given as goal

abbrev pub invariant-loop-at : goal.invariant-loop-at
invariant-loop-at l = record {
  same_text : l.at-iterator.text.now ≡ l.fn.text;
  few : l.number ≤ l.at-iterator.at;
  within : Within l.n (length l.fn.words) (length l.fn.table);
  same : assemble_from (task l.rules.strict l.fn.text (length l.fn.words) (length l.fn.table)) (lines (drop l.at-iterator.at l.fn.text)) l.at-iterator.at l.number (work_of l.n l.words l.table l.opens)
      ≡ assemble (task l.rules.strict l.fn.text (length l.fn.words) (length l.fn.table));
}
