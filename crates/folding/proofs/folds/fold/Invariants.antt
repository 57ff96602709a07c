-- The edges are folded so far, and with each sweep that folds the sum of their points falls.
use Rattle.graphs.specs.Folding.{total}
use Rattle.folding.specs.Sweeps.{FoldedSoFar, folded_edges}
use Rattle.folding.proofs.folds.fold.Given as goal

abbrev pub invariant-loop-down : goal.invariant-loop-down
invariant-loop-down l = FoldedSoFar l.edges l.points l.index

abbrev pub decreases-loop-down : goal.decreases-loop-down
decreases-loop-down l = total (folded_edges l.edges l.points)
