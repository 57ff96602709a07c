-- The numbers of the refusals, as docs/REQUIREMENTS.md gives them.
use Rattle.std.specs.Prelude.{ℕ}
use Rattle.records.specs.declared.refusals.Reason.{Reason}
use Rattle.records.specs.declared.refusals.Reason.TheVariants.{SystemUneven, SystemTooLong, NoLineFeed, NeitherLetterNorStop, LetterAfterStop, TargetOrProductMalformed, LogUneven, LogRecordMalformed, SlotMissing, WordsBufferShort, ProductBufferShort, WordTooLong, LogBufferShort, SystemNotReduced, TextMalformed, NestingTooDeep, ExponentOutOfRange, NumbersMalformed, NumberWithoutLetter, EdgeTableShort, LengthDiffers}

abbrev pub number_of : Reason → ℕ
number_of SystemUneven = 1
number_of SystemTooLong = 2
number_of NoLineFeed = 3
number_of NeitherLetterNorStop = 4
number_of LetterAfterStop = 5
number_of TargetOrProductMalformed = 6
number_of LogUneven = 7
number_of LogRecordMalformed = 8
number_of SlotMissing = 9
number_of WordsBufferShort = 10
number_of ProductBufferShort = 11
number_of WordTooLong = 12
number_of LogBufferShort = 13
number_of SystemNotReduced = 15
number_of TextMalformed = 16
number_of NestingTooDeep = 17
number_of ExponentOutOfRange = 18
number_of NumbersMalformed = 19
number_of NumberWithoutLetter = 20
number_of EdgeTableShort = 21
number_of LengthDiffers = 22
