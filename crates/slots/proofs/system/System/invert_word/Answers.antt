-- `slots::system::System::invert_word` meets its contract.
use borrow.Author.Rules.{rules}
use Rattle.slots.proofs.Arrays.{freely_inverted, inverse_set, short_inverted}
use Rattle.slots.proofs.system.System.invert_word.Goals as goal

pub invariant_of-self : goal.invariant_of-self
invariant_of-self c = (search rules, search rules, search (short_inverted, rules), search (freely_inverted, rules))

pub returns : goal.returns
returns c = search (inverse_set, rules)
