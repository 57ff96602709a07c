-- `subgroups_c::subgroups_ask` meets its contract.
use borrow.Author.Rules.{rules}
use Rattle.subgroups_c.proofs.Numbers.{ask_meaning, plain_of}
use Rattle.subgroups_c.proofs.subgroups_ask.Goals as goal

pub returns-clause-numbers : goal.returns-clause-numbers
returns-clause-numbers c = search (plain_of, rules)

pub returns-clause-means : goal.returns-clause-means
returns-clause-means c = search (ask_meaning, rules)
