-- `subgroups_c::subgroups_tidy` meets its contract.
use borrow.Author.Rules.{rules}
use Rattle.subgroups_c.proofs.Numbers.{plain_of}
use Rattle.subgroups_c.proofs.subgroups_tidy.Goals as goal

pub returns-clause-numbers : goal.returns-clause-numbers
returns-clause-numbers c = search (plain_of, rules)
