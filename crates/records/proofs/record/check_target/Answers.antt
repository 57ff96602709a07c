-- `records::record::check_target` meets its contract.
use borrow.Author.Rules.{rules}
use Rattle.records.specs.Refusals.{target_rules}
use Rattle.records.proofs.Targets.{target_fine, target_refused, target_uneven}
use Rattle.records.proofs.record.check_target.Goals as goal

pub returns-in_default : goal.returns-in_default
returns-in_default c = search (target_uneven, rules)

pub returns-in_default-check_record : goal.returns-in_default-check_record
returns-in_default-check_record c = search (target_fine, rules)

pub returns : goal.returns
unfolding target_rules
returns c = search (target_refused, rules)
