-- The entries left are fewer. Assumes nothing.
use Rattle.std.proofs.Common.{length}
use Rattle.map.proofs.entries.+is_sound.Given as goal

abbrev pub decreases-is_sound : goal.decreases-is_sound
decreases-is_sound g l = length l.entries.now
