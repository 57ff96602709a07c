use Rattle.std.proofs.Common.{◌*◌, ◌≡◌, ◌++◌, drop, length, take}
use Rattle.std.specs.List.{flat_map}
use Rattle.numbers.specs.Records.{numbers_record}
use Rattle.numbers.proofs.Systems.{numbered}
use Rattle.numbers.proofs.to_numbers.Given as goal

abbrev pub invariant-loop-k : goal.invariant-loop-k
invariant-loop-k l =
    (length l.numbers ≡ length l.initial.numbers) × (l.numbers ≡ flat_map numbers_record (take l.k (numbered l.system)) ++ drop (l.k * 128) l.initial.numbers)
