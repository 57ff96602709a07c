use Prim.Native.Nat.{◌≤◌}
use Rattle.words.specs.Alphabet.{bytes}
use Rattle.words.specs.Words.{common_prefix, signed}
use Rattle.words.proofs.cancel.common_prefix_signed.Given as goal

abbrev pub invariant-loop-i : goal.invariant-loop-i
invariant-loop-i l = l.i ≤ common_prefix bytes (signed bytes l.inverted l.u) (signed bytes l.reversed l.v)
