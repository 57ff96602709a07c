use Rattle.std.proofs.Common.{◌*◌, ◌≡◌, ◌++◌, drop, length, take}
use Rattle.std.specs.List.{flat_map}
use Rattle.numbers.specs.Records.{number_bytes}
use Rattle.numbers.proofs.record.write_numbers_record.Given as goal

abbrev pub invariant-loop-i : goal.invariant-loop-i
invariant-loop-i l = (length l.out ≡ 128) × (l.out ≡ flat_map number_bytes (take l.i l.word) ++ drop (l.i * 2) l.initial.out)
