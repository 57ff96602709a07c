-- `replay::check_replay` meets its contract.
use borrow.Author.Rules.{rules}
use Rattle.records.proofs.Chains.{then_failed, then_fine}
use Rattle.replay.specs.Replay.{replay_tests}
use Rattle.replay.proofs.check_replay.Goals as goal

pub returns-in_default : goal.returns-in_default
unfolding replay_tests
returns-in_default c = search (then_failed, rules)

pub returns-in_default-logged : goal.returns-in_default-logged
unfolding replay_tests
returns-in_default-logged c = search (then_failed, then_fine, rules)

pub returns : goal.returns
unfolding replay_tests
returns c = search (then_fine, rules)
