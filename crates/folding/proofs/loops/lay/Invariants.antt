-- The loops of the words before are laid, and those of the words that are left are still to come.
use Rattle.std.proofs.Common.{◌+◌, ◌*◌, ◌≤◌, ◌≡◌, ◌++◌, drop, length, take}
use Rattle.graphs.specs.Graphs.{loops}
use Rattle.folding.specs.Loops.{points_with_loops}
use Rattle.folding.proofs.loops.lay.Given as goal

abbrev pub invariant-loop-slot : goal.invariant-loop-slot
invariant-loop-slot l =
    (length l.edges ≡ length l.initial.edges) × (take l.laid l.edges ++ loops l.points (drop l.slot l.system) ≡ loops 1 l.system)
    × (points_with_loops l.points (drop l.slot l.system) ≡ points_with_loops 1 l.system) × (l.laid ≤ l.slot * 63) × (1 ≤ l.points)
    × (l.points ≤ l.slot * 62 + 1)
