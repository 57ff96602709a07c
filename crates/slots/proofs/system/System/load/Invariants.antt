use Rattle.std.proofs.Common.{◌≡◌, map}
use Rattle.words.specs.Alphabet.{bytes}
use Rattle.words.specs.Below.{below}
use Rattle.words.specs.Words.{freely_reduce}
use Rattle.slots.specs.Systems.{word_at}
use Rattle.slots.proofs.system.System.load.Given as goal

abbrev pub invariant-loop-record : goal.invariant-loop-record
invariant-loop-record l = l.self ≡ map (freely_reduce bytes) (below (word_at l.records) l.record-index)
