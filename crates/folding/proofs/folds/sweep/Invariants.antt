-- The steps along the edges of the turns before are done.
use Rattle.folding.specs.Sweeps.{StepBefore, Swept}
use Rattle.folding.proofs.folds.sweep.Given as goal

abbrev pub invariant-loop-turn : goal.invariant-loop-turn
invariant-loop-turn l = Swept l.edges l.initial.points (StepBefore l.edges l.down l.turn) l.changed l.points l.index
