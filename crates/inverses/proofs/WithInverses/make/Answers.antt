-- `inverses::WithInverses::make` meets its contract.
use Rattle.std.proofs.Common.{rules}
use Rattle.inverses.proofs.Inverting.{inverses_set}
use Rattle.inverses.proofs.WithInverses.make.Goals as goal

pub invariant_of-self : goal.invariant_of-self
invariant_of-self c = search (inverses_set, rules)
