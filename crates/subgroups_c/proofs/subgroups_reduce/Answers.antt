-- `subgroups_c::subgroups_reduce` meets its contract.
use borrow.Author.Rules.{rules}
use Rattle.subgroups_c.proofs.Numbers.{reduction_of_lem, reduce_meaning}
use Rattle.subgroups_c.proofs.subgroups_reduce.Goals as goal

pub returns-clause-numbers : goal.returns-clause-numbers
returns-clause-numbers c = search (reduction_of_lem, rules)

pub returns-clause-means : goal.returns-clause-means
returns-clause-means c = search (reduce_meaning, rules)
