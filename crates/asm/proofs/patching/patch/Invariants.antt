-- Those kept and those still to come, patched, are what all of them patched come to. Assumes nothing.
use Prim.Native.Nat.{◌≤◌}
use lib.ListN.{take}
use mathlib.Core.Path.{◌≡◌}
use Rattle.asm.proofs.PatchLaws.{left-to-patch}
use Rattle.asm.specs.Labels.{patch}
use Rattle.asm.proofs.patching.patch.Given as goal

abbrev pub invariant-loop-i : goal.invariant-loop-i
invariant-loop-i l = (l.kept ≤ l.i) ×
    (left-to-patch l.rules.strict l.text l.name l.address.0 l.count l.i l.kept l.opens l.words
    ≡ patch l.rules.strict l.text l.name l.address.0 (take l.count l.initial.opens) l.initial.words)
