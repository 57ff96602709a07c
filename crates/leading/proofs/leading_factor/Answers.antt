-- `leading::leading_factor` meets its contract.
use borrow.Author.Rules.{rules}
use Rattle.leading.proofs.Leading.{leading_big, leading-half}
use Rattle.leading.proofs.leading_factor.Goals as goal

pub returns-in_default-clause-found : goal.returns-in_default-clause-found
returns-in_default-clause-found c = search (leading_big, rules)

pub returns-clause-found : goal.returns-clause-found
returns-clause-found c = search (leading-half, rules)
