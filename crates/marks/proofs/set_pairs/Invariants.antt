use Rattle.marks.proofs.Marking.{ColumnSet}
use Rattle.marks.proofs.set_pairs.Given as goal

abbrev pub invariant-loop-row : goal.invariant-loop-row
invariant-loop-row l = ColumnSet l.c l.marked l.row-index l.initial.row-items l.row-items
