-- `marks::Search::load` meets its contract.
use Rattle.std.proofs.Common.{rules}
use Rattle.marks.proofs.Marking.{ready_loaded}
use Rattle.marks.proofs.Search.load.Goals as goal

pub invariant_of-self : goal.invariant_of-self
invariant_of-self c = search (ready_loaded, rules)
