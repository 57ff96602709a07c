-- `reduction::test::test` meets its contract.
use borrow.Author.Rules.{rules}
use Rattle.reduction.proofs.Calls.{system-size_told, test_given, test_refused}
use Rattle.reduction.proofs.Meaning.{test_means}
use Rattle.reduction.proofs.test.test.Goals as goal

pub returns-in_default : goal.returns-in_default
returns-in_default c = search (test_refused, test_means, rules)

pub load-requires : goal.load-requires
load-requires c = search (system-size_told, rules)

pub returns : goal.returns
returns c = search (test_given, test_means, rules)
