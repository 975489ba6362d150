-- Every instruction has a word of sixteen bits: each field is masked and stands above the ones before it. Assumes nothing.
use Prim.Native.Nat.{◌<◌}
use native.Mathlib.Omega.{arith}
use Rattle.instruction.specs.declared.Instruction.{Instruction}
use Rattle.instruction.specs.declared.Instruction.TheVariants.{Noop, Mov, MovShift, Arith, ArithRegReg, LdrStr, LdbStb, Cpy, Jmp, CondJmp, Cmp, CallRet}
use Rattle.instruction.specs.Encode.{encode}

pub encode-lt : (i : Instruction) → encode i < 65536
encode-lt Noop = omega arith
encode-lt (Mov d o) = omega arith
encode-lt (MovShift r n left v) = omega arith
encode-lt (Arith d o k) = omega arith
encode-lt (ArithRegReg d a b k) = omega arith
encode-lt (LdrStr r a s n) = omega arith
encode-lt (LdbStb r a s n) = omega arith
encode-lt (Cpy s t) = omega arith
encode-lt (Jmp o) = omega arith
encode-lt (CondJmp o) = omega arith
encode-lt (Cmp r o k) = omega arith
encode-lt (CallRet r n) = omega arith
