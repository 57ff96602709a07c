-- `folding::loops::lay` meets its contract.
use Rattle.std.proofs.Common.{rules}
use Rattle.folding.proofs.Laying.{lay_more, points_more}
use Rattle.folding.proofs.loops.lay.Goals as goal

pub loop-slot-preserved : goal.loop-slot-preserved
loop-slot-preserved c =
    (search rules, search (lay_more, rules), search (points_more, rules), search rules, search rules, search rules)
