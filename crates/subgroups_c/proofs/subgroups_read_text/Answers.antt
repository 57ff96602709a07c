-- `subgroups_c::subgroups_read_text` meets its contract.
use borrow.Author.Rules.{rules}
use Rattle.subgroups_c.proofs.Numbers.{plain_of, read_meaning}
use Rattle.subgroups_c.proofs.subgroups_read_text.Goals as goal

pub returns-clause-numbers : goal.returns-clause-numbers
returns-clause-numbers c = search (plain_of, rules)

pub returns-clause-means : goal.returns-clause-means
returns-clause-means c = search (read_meaning, rules)
