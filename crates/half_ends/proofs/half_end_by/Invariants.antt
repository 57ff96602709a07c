use Rattle.half_ends.proofs.HalfSearch.{Kept}
use Rattle.half_ends.proofs.half_end_by.Given as goal

abbrev pub invariant-loop-k : goal.invariant-loop-k
invariant-loop-k l = Kept l.system l.h l.k
