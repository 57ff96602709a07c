use Rattle.std.proofs.Common.{◌*◌, ◌≡◌, ◌++◌, drop, length, take}
use Rattle.std.specs.List.{flat_map}
use Rattle.records.specs.Records.{record_of}
use Rattle.numbers.proofs.Systems.{lettered}
use Rattle.numbers.proofs.from_numbers.Given as goal

abbrev pub invariant-loop-k : goal.invariant-loop-k
invariant-loop-k l =
    (length l.words ≡ length l.initial.words) × (l.words ≡ flat_map record_of (take l.k (lettered l.numbers)) ++ drop (l.k * 64) l.initial.words)
