-- A line that is being written, which has room for 32 bytes.
use Rattle.std.specs.Prelude.{ℕ, List, ◌++◌, take}

-- the bytes so far and these after them: those for which there is no room are left out
unfoldable pub added : List ℕ → List ℕ → List ℕ
added line bytes = take 32 (line ++ bytes)
