-- `leading::ends_apart` meets its contract.
use borrow.Author.Rules.{rules}
use Rattle.leading.proofs.Leading.{apart_alike, apart_opposite, apart_same}
use Rattle.leading.proofs.ends_apart.Goals as goal

pub returns-then-half-common_prefix_signed : goal.returns-then-half-common_prefix_signed
returns-then-half-common_prefix_signed c = search (apart_opposite, rules)

pub returns-then-j-x : goal.returns-then-j-x
returns-then-j-x c = search (apart_alike, rules)

pub returns-else-j-x : goal.returns-else-j-x
returns-else-j-x c = search (apart_same, rules)
