use mathlib.Core.Bool.{false}
use mathlib.Core.Path.{◌≡◌}
use Rattle.half_ends.specs.HalfEnds.{half_elsewhere}
use Rattle.half_ends.proofs.half_elsewhere.Given as goal

abbrev pub invariant-loop-i : goal.invariant-loop-i
invariant-loop-i l = (half_elsewhere l.inverted l.i l.system l.h ≡ false)
