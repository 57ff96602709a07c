use Rattle.std.proofs.Common.{◌<◌, ◌≡◌, length}
use Rattle.std.specs.Prelude.{IfSome}
use Rattle.words.specs.Alphabet.{bytes}
use Rattle.systems.specs.Rules.{shortest_below}
use Rattle.half_ends.proofs.shortest_slot.Given as goal

abbrev pub invariant-loop-k : goal.invariant-loop-k
invariant-loop-k l = (l.best ≡ shortest_below bytes l.system l.k) × IfSome l.best (λ h. h < length l.system)
