use mathlib.Core.Path.{◌≡◌}
use Rattle.std.specs.Prelude.{None}
use Rattle.words.specs.Alphabet.{bytes}
use Rattle.systems.specs.Factoring.{half_start}
use Rattle.leading.proofs.Leading.{sought}
use Rattle.leading.proofs.find_half_start.Given as goal

abbrev pub invariant-loop-inverted : goal.invariant-loop-inverted
invariant-loop-inverted l = sought (half_start bytes l.system l.word) l.k l.inverted-index ≡ None

abbrev pub invariant-loop-k : goal.invariant-loop-k
invariant-loop-k l = sought (half_start bytes l.system l.word) l.k 0 ≡ None
