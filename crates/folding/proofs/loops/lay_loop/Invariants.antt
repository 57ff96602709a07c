-- The edges of the letters before are laid, and the rest of the loop is still to come.
use Rattle.std.proofs.Common.{◌+◌, ◌≡◌, ◌++◌, drop, length, take}
use Rattle.graphs.specs.Graphs.{loop}
use Rattle.folding.proofs.loops.lay_loop.Given as goal

abbrev pub invariant-loop-at : goal.invariant-loop-at
invariant-loop-at l =
    (length l.edges ≡ length l.word)
    × (take l.at l.edges ++ loop l.from (l.first + l.at) (drop l.at l.word) ≡ loop 0 l.first l.word)
