-- The number that a C host gets comes apart into what was put into it: code and count, or words, open references and labels.
-- Assumes nothing.
use Prim.Native.Nat.{ℕ, ◌/◌, ◌%◌, ◌<◌}
use mathlib.Core.Path.{◌≡◌}
use native.Mathlib.Omega.{arith}
use Rattle.asm.specs.Assemble.{counts}
use Rattle.numbers.specs.Answers.{coded, assembled_number}

module _ (code above : ℕ) (h : code < 65536) where
  pub the_code : coded code above % 65536 ≡ code
  the_code = omega arith

  pub the-count : coded code above / 65536 ≡ above
  the-count = omega arith

module _ (words labels waiting : ℕ) (w : words < 65536) (l : labels < 65536) (o : waiting < 65536) where
  pub no_code : assembled_number (counts words labels waiting) % 65536 ≡ 0
  no_code = omega arith

  pub the-words : assembled_number (counts words labels waiting) / 65536 % 65536 ≡ words
  the-words = omega arith

  pub the_open : assembled_number (counts words labels waiting) / 4294967296 % 65536 ≡ waiting
  the_open = omega arith

  pub the-labels : assembled_number (counts words labels waiting) / 281474976710656 ≡ labels
  the-labels = omega arith
