-- `subgroups_c::subgroups_test` meets its contract.
use borrow.Author.Rules.{rules}
use Rattle.subgroups_c.proofs.Numbers.{test_of, test_meaning}
use Rattle.subgroups_c.proofs.subgroups_test.Goals as goal

pub returns-clause-numbers : goal.returns-clause-numbers
returns-clause-numbers c = search (test_of, rules)

pub returns-clause-means : goal.returns-clause-means
returns-clause-means c = search (test_meaning, rules)
