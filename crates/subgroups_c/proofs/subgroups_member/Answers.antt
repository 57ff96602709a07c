-- `subgroups_c::subgroups_member` meets its contract.
use borrow.Author.Rules.{rules}
use Rattle.subgroups_c.proofs.Numbers.{member_meaning, member_in_turn, reduction_of_lem}
use Rattle.subgroups_c.proofs.subgroups_member.Goals as goal

pub returns-clause-numbers : goal.returns-clause-numbers
returns-clause-numbers c = search (reduction_of_lem, rules)

pub returns-clause-means : goal.returns-clause-means
returns-clause-means c = search (member_meaning, rules)

pub returns-clause-in_turn : goal.returns-clause-in_turn
returns-clause-in_turn c = search (member_in_turn, rules)
