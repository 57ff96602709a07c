-- `folding::filing::join` meets its contract.
use Rattle.std.proofs.Common.{rules}
use Rattle.graphs.proofs.Joined.{joined_next}
use Rattle.folding.proofs.filing.join.Goals as goal

pub loop-point-preserved : goal.loop-point-preserved
loop-point-preserved c = search (joined_next, rules)
