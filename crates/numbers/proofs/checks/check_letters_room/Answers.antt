-- `numbers::checks::check_letters_room` meets its contract.
use borrow.Author.Rules.{rules}
use Rattle.records.proofs.Chains.{then_failed, then_fine}
use Rattle.numbers.specs.Refusals.{letters_room}
use Rattle.numbers.proofs.checks.check_letters_room.Goals as goal

pub returns-in_default : goal.returns-in_default
unfolding letters_room
returns-in_default c = search (then_failed, rules)

pub returns : goal.returns
unfolding letters_room
returns c = search (then_fine, rules)
