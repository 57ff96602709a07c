-- `slots::system::System::replace` meets its contract.
use borrow.Author.Rules.{rules}
use Rattle.std.proofs.Math.Seq.{take-set-lt}
use Rattle.slots.proofs.Arrays.{freely_set, short_set}
use Rattle.slots.proofs.system.System.replace.Goals as goal

pub invariant_of-self : goal.invariant_of-self
invariant_of-self g c = (search rules, search rules, search (short_set, rules), search (freely_set, rules))

pub returns : goal.returns
returns g c = search (take-set-lt, rules)
