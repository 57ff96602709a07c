-- The points up to here are those made one.
use Rattle.std.proofs.Common.{◌≡◌, ◌++◌, drop, map, take}
use Rattle.graphs.specs.Graphs.{joined}
use Rattle.folding.proofs.filing.join.Given as goal

abbrev pub invariant-loop-point : goal.invariant-loop-point
invariant-loop-point l = l.points ≡ map (joined l.one l.other) (take l.point-index l.initial.points) ++ drop l.point-index l.initial.points
