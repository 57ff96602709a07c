-- `numbers::checks::check_numbers_room` meets its contract.
use borrow.Author.Rules.{rules}
use Rattle.records.proofs.Chains.{then_failed, then_fine}
use Rattle.numbers.specs.Refusals.{numbers_room}
use Rattle.numbers.proofs.checks.check_numbers_room.Goals as goal

pub returns-in_default : goal.returns-in_default
unfolding numbers_room
returns-in_default c = search (then_failed, rules)

pub returns : goal.returns
unfolding numbers_room
returns c = search (then_fine, rules)
