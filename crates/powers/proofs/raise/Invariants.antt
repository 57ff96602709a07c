use Prim.Native.Nat.{◌*◌, ◌≤◌}
use mathlib.Core.Path.{◌≡◌}
use lib.ListN.{length}
use Rattle.words.specs.Alphabet.{bytes}
use Rattle.words.specs.Words.{freely_reduce, signed}
use Rattle.syntax.specs.TreeWords.{times as copies}
use Rattle.powers.proofs.raise.Given as goal

abbrev pub invariant-loop : goal.invariant-loop
invariant-loop l = (length l.power ≤ l.counter * 63) × (l.power ≡ freely_reduce bytes (copies l.counter (signed bytes l.minus l.word)))
