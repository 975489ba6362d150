-- Sqrt is the r with r*r <= v < (r+1)*(r+1). That this is it, and that there is no other, are laws (proofs/Laws.antt).
use Rattle.std.specs.Prelude.{ℕ, zero, suc, ◌*◌, leb}
use Rattle.base.specs.Choice.{cond}

-- the greatest r of 0 to k with r*r <= v
unfoldable pub root_up_to : ℕ → ℕ → ℕ
root_up_to zero v = 0
root_up_to (suc k) v = cond (leb (suc k * suc k) v) (suc k) (root_up_to k v)

-- 256*256 is 65,536
unfoldable pub root : ℕ → ℕ
root v = root_up_to 255 v
