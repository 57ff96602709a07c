use Rattle.std.proofs.Common.{rules}
use Rattle.marks.proofs.Marking.{column_begin, column_more, pairs_set}
use Rattle.marks.proofs.set_pairs.Goals as goal

pub loop-row-init : goal.loop-row-init
loop-row-init c = search (column_begin, rules)

pub loop-row-preserved : goal.loop-row-preserved
loop-row-preserved c = search (column_more, rules)

pub returns : goal.returns
returns c = search (pairs_set, rules)
