-- `slots::checks::check_system_room` meets its contract.
use borrow.Author.Rules.{rules}
use Rattle.records.proofs.Chains.{then_failed, then_fine}
use Rattle.slots.specs.Refusals.{system_room}
use Rattle.slots.proofs.checks.check_system_room.Goals as goal

pub returns-in_default : goal.returns-in_default
unfolding system_room
returns-in_default c = search (then_failed, rules)

pub returns : goal.returns
unfolding system_room
returns c = search (then_fine, rules)
