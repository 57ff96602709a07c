-- `slots::checks::check_room` meets its contract.
use borrow.Author.Rules.{rules}
use Rattle.slots.specs.Refusals.{word_room}
use Rattle.slots.proofs.checks.check_room.Goals as goal

pub returns : goal.returns
unfolding word_room
returns c = search rules
