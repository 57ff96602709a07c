use Rattle.std.proofs.Common.{◌*◌, ◌≡◌, ◌++◌, drop, length, take}
use Rattle.std.specs.List.{flat_map}
use Rattle.records.specs.Records.{record_of}
use Rattle.slots.specs.Systems.{AllShort}
use Rattle.slots.proofs.system.System.store.Given as goal

abbrev pub invariant-loop-k : goal.invariant-loop-k
invariant-loop-k l =
    (length l.records ≡ length l.initial.records) × AllShort l.word-items
    × (l.records ≡ flat_map record_of (take l.k l.word-items) ++ drop (l.k * 64) l.initial.records)
