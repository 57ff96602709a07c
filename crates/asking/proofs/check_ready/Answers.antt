-- `asking::check_ready` meets its contract: refusal 15, then 11.
use borrow.Author.Rules.{rules}
use Rattle.records.proofs.Chains.{must_told, then_failed, then_fine}
use Rattle.asking.specs.Asking.{ready_rules}
use Rattle.asking.proofs.check_ready.Goals as goal

pub returns-in_default : goal.returns-in_default
unfolding ready_rules
returns-in_default c = search (then_failed, must_told, rules)

pub returns : goal.returns
unfolding ready_rules
returns c = search (then_fine, must_told, rules)
