-- `slots::system::System::add` meets its contract.
use borrow.Author.Rules.{rules}
use Rattle.slots.proofs.Arrays.{freely_set, short_set}
use Rattle.slots.proofs.system.System.add.Goals as goal

pub invariant_of-self : goal.invariant_of-self
invariant_of-self c = (search rules, search rules, search (short_set, rules), search (freely_set, rules))
