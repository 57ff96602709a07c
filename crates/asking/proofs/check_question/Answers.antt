-- `asking::check_question` meets its contract: refusals 1 to 5, then 6.
use borrow.Author.Rules.{rules}
use Rattle.records.proofs.Chains.{then_failed, then_fine}
use Rattle.asking.specs.Asking.{question_rules}
use Rattle.asking.proofs.check_question.Goals as goal

pub returns-in_default : goal.returns-in_default
unfolding question_rules
returns-in_default c = search (then_failed, rules)

pub returns : goal.returns
unfolding question_rules
returns c = search (then_fine, rules)
