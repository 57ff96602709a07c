use Rattle.std.proofs.Common.{◌*◌, ◌≡◌, ◌++◌, drop, length, take}
use Rattle.std.specs.List.{flat_map}
use Rattle.numbers.specs.Records.{numbers_record}
use Rattle.numbers.proofs.Systems.{reduced}
use Rattle.numbers.proofs.tidy_numbers.Given as goal

abbrev pub invariant-loop-k : goal.invariant-loop-k
invariant-loop-k l =
    (length l.tidied ≡ length l.initial.tidied) × (l.tidied ≡ flat_map numbers_record (take l.k (reduced l.numbers)) ++ drop (l.k * 128) l.initial.tidied)
