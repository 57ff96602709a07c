-- `slots::system::System::invert` meets its contract.
use borrow.Author.Rules.{rules}
use Rattle.slots.proofs.Arrays.{freely_inverted, inverted_more, short_inverted}
use Rattle.slots.proofs.system.System.invert.Goals as goal

pub loop-slot-preserved : goal.loop-slot-preserved
loop-slot-preserved c = (search rules, search (short_inverted, rules), search (freely_inverted, rules), search (inverted_more, rules))
