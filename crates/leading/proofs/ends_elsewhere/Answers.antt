-- `leading::ends_elsewhere` meets its contract. The invariant: no other factor of a slot passed ends with the second half.
use borrow.Author.Rules.{rules}
use Rattle.leading.proofs.Leading.{elsewhere_begin, elsewhere_met, elsewhere_turn}
use Rattle.leading.proofs.ends_elsewhere.Goals as goal

pub loop-j-init : goal.loop-j-init
loop-j-init c = search (elsewhere_begin, rules)

pub returns-then-ends_apart : goal.returns-then-ends_apart
returns-then-ends_apart c = search (elsewhere_met, rules)

pub loop-j-preserved : goal.loop-j-preserved
loop-j-preserved c = search (elsewhere_turn, rules)
