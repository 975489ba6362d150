-- A record has one kind byte (0, 1, 2 stored bytes) and 22 more: eight old registers, then address and old byte twice, unused
-- zero, numbers low byte first.
use Rattle.std.specs.Prelude.{ℕ, List, [], ◌∷◌, ◌++◌, get_or, drop}
use Rattle.base.specs.Words.{low_of, high_of}
use Rattle.wordbytes.specs.Words.{bytes_of, word_at, words_from}
use Rattle.records.specs.declared.Old.{Old}
use Rattle.records.specs.declared.Record.{Record}

abbrev pub old : ℕ → ℕ → Old
old a v = record { address = a; byte = v }

abbrev pub entry : ℕ → List ℕ → Old → Old → Record
entry kind registers first second = record { kind = kind; registers = registers; first = first; second = second }

-- ---- to bytes

abbrev pub old_bytes : Old → List ℕ
old_bytes o = low_of o.address ∷ high_of o.address ∷ o.byte ∷ []

unfoldable pub encode : Record → List ℕ
encode r = r.kind ∷ bytes_of r.registers ++ (old_bytes r.first ++ old_bytes r.second)

-- ---- and from them

abbrev pub old_from : List ℕ → Old
old_from bytes = old (word_at bytes 0) (get_or bytes 2 0)

unfoldable pub decode : List ℕ → Record
decode bytes = entry (get_or bytes 0 0) (words_from 8 (drop 1 bytes)) (old_from (drop 17 bytes)) (old_from (drop 20 bytes))
