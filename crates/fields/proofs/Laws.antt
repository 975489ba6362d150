-- The one law of packing, over position and width: a field of a sum of disjoint placed fields is the field's value.
-- It is a quotient and a remainder of such a sum. Assumes nothing.
use Prim.Native.Nat.{ℕ, ◌+◌, ◌*◌, ◌/◌, ◌%◌, ◌^◌, ◌<◌, ◌≤◌}
use mathlib.Core.Path.{◌≡◌, ◌∙◌, ap}
use native.Mathlib.Nat.{mod-lt, lt_of_lt_of_le}
use lib.Pow.{pow_pos, pow_mono, shl_lt, high, low}
use Rattle.fields.specs.Fields.{field_of, place_of}

-- v stands at bit `at`, what lies below it is under 2 ^ at, and what lies above it is whole 2 ^ (at + width)s
pub unpack : (at width over : ℕ) {under v : ℕ} → under < 2 ^ at → v < 2 ^ width → field_of ((over * 2 ^ width + v) * 2 ^ at + under) at width ≡ v
unpack at width over {under} {v} l h = ap (λ (n : ℕ). n % 2 ^ width) (high (over * 2 ^ width + v) at l) ∙ low over width h

-- the same, of a word that is shown to have that form
pub unpacked : (w at width under v over : ℕ) → w ≡ (over * 2 ^ width + v) * 2 ^ at + under → under < 2 ^ at → v < 2 ^ width → field_of w at width ≡ v
unpacked w at width under v over e l h = ap (λ (n : ℕ). field_of n at width) e ∙ unpack at width over l h

-- a value that is placed within k bits is below 2 ^ k
pub placed-fits : (k v at width : ℕ) → width + at ≤ k → place_of v at width < 2 ^ k
placed-fits k v at width h = lt_of_lt_of_le (shl_lt width at (mod-lt v (pow_pos width))) (pow_mono h)

-- a field is below 2 ^ width
pub field_fits : (w at width : ℕ) → field_of w at width < 2 ^ width
field_fits w at width = mod-lt (w / 2 ^ at) (pow_pos width)
