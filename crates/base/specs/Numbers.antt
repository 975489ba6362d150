-- The refusals' numbers, document 01's to 30 and document 02's from 31 on: the one place that says which refusal has which.
use Rattle.std.specs.Prelude.{ℕ, Result, Ok, Err}
use Rattle.base.specs.declared.refusals.Refusal.{Refusal}
use Rattle.base.specs.declared.refusals.Refusal.TheVariants.{BadState, FetchUnmapped, AddressOverflow, BadOpcode, BadCompare, BadArith, ArithOverflow, DivideByZero, PcOverflow, NothingToUndo, BadJournal, RangeOverflow, Overlap, TableFull, WriteFailed, TooLong, NoDeviceRoom, BadRegister, NoRoom, InvalidRegister, InvalidOperands, InvalidInstruction, InvalidFormat, InvalidImmediate, UnresolvedLabel, NotAscii, TooManyLabels, TooManyFixups, ProgramFull, FieldTooWide, BadBlock, NotDecodable, NoText}

abbrev pub number_of : Refusal → ℕ
number_of BadState = 1
number_of FetchUnmapped = 2
number_of AddressOverflow = 3
number_of BadOpcode = 4
number_of BadCompare = 5
number_of BadArith = 6
number_of ArithOverflow = 7
number_of DivideByZero = 8
number_of PcOverflow = 9
number_of NothingToUndo = 10
number_of BadJournal = 11
number_of RangeOverflow = 12
number_of Overlap = 13
number_of TableFull = 14
number_of WriteFailed = 15
number_of TooLong = 16
number_of NoDeviceRoom = 17
number_of BadRegister = 18
number_of NoRoom = 19
number_of InvalidRegister = 20
number_of InvalidOperands = 21
number_of InvalidInstruction = 22
number_of InvalidFormat = 23
number_of InvalidImmediate = 24
number_of UnresolvedLabel = 25
number_of NotAscii = 26
number_of TooManyLabels = 27
number_of TooManyFixups = 28
number_of ProgramFull = 29
number_of FieldTooWide = 30
number_of BadBlock = 31
number_of NotDecodable = 32
number_of NoText = 33

-- 0 where an entry accepts
abbrev pub answer_number : {A : Type 0} → Result A Refusal → ℕ
answer_number (Ok a) = 0
answer_number (Err r) = number_of r
