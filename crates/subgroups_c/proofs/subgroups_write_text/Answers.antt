-- `subgroups_c::subgroups_write_text` meets its contract.
use borrow.Author.Rules.{rules}
use Rattle.subgroups_c.proofs.Numbers.{length_of, read_back_meaning, write_meaning, write_of}
use Rattle.subgroups_c.proofs.subgroups_write_text.Goals as goal

pub returns-clause-length : goal.returns-clause-length
returns-clause-length c = search (length_of, rules)

pub returns-clause-numbers : goal.returns-clause-numbers
returns-clause-numbers c = search (write_of, rules)

pub returns-clause-means : goal.returns-clause-means
returns-clause-means c = search (write_meaning, rules)

pub returns-clause-read_back : goal.returns-clause-read_back
returns-clause-read_back c = search (read_back_meaning, rules)
