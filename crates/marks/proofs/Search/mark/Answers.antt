-- `marks::Search::mark` meets its contract.
use Rattle.std.proofs.Common.{ap, arith, length}
use Rattle.marks.proofs.Marking.{ready_marked}
use Rattle.marks.proofs.Search.mark.Goals as goal

pub invariant_of-self : goal.invariant_of-self
invariant_of-self c =
    let r = c.self.invariant in
    ready_marked _ _ _ _ (omega (arith, ap length c.self.view_is)) _ _ r c.self.view_is c.requires.failed
