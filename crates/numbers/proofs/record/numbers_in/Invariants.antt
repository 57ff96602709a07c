use Rattle.std.proofs.Common.{◌≡◌, length, take}
use Rattle.numbers.specs.Records.{numbers_in}
use Rattle.numbers.proofs.record.numbers_in.Given as goal

abbrev pub invariant-loop-i : goal.invariant-loop-i
invariant-loop-i l = (length l.numbers ≡ 64) × (take l.i l.numbers ≡ take l.i (numbers_in l.bytes))
