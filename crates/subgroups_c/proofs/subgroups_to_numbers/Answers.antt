-- `subgroups_c::subgroups_to_numbers` meets its contract.
use borrow.Author.Rules.{rules}
use Rattle.subgroups_c.proofs.Numbers.{plain_of}
use Rattle.subgroups_c.proofs.subgroups_to_numbers.Goals as goal

pub returns-clause-answer : goal.returns-clause-answer
returns-clause-answer c = search (plain_of, rules)
