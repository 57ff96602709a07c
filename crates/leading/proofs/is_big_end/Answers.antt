-- `leading::is_big_end` meets its contract.
use borrow.Author.Rules.{rules}
use Rattle.leading.proofs.Leading.{big_counted}
use Rattle.leading.proofs.is_big_end.Goals as goal

pub returns : goal.returns
returns c = λ w told. search (big_counted, rules)
