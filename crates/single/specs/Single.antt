-- The single line: 26 first, blank is 23, an unknown label 25. It knows neither labels nor comments, and isn't strict.
use Rattle.std.specs.Prelude.{ℕ, List, Option, Some, None, eqb}
use Rattle.base.specs.Choice.{cond}
use Rattle.base.specs.Told.{Told, is, no}
use Rattle.instruction.specs.declared.Instruction.{Instruction}
use Rattle.text.specs.Tokens.{tokens}
use Rattle.text.specs.Lines.{foreign_line}
use Rattle.parser.specs.declared.Reference.{Reference}
use Rattle.parser.specs.References.{resolved}
use Rattle.parser.specs.Answers.{Meaning, says, refers}
use Rattle.parser.specs.Parse.{parse}
use Rattle.labels.specs.declared.Label.{Label}
use Rattle.labels.specs.declared.Found.{Found}
use Rattle.labels.specs.Labels.{find}

abbrev pub known : Reference → Option Found → Told Instruction
known r (Some f) = is (resolved r f.address)
known r None = no 25

abbrev pub meant : List ℕ → List Label → Told Meaning → Told Instruction
meant text labels (is (says i)) = is i
meant text labels (is (refers r name)) = known r (find text name labels)
meant text labels (no n) = no n

unfoldable pub single : List ℕ → List ℕ → List Label → Told Instruction
single line text labels = cond (eqb (foreign_line 1 line) 0) (meant text labels (parse (tokens line))) (no 26)
