-- `records::record::check_record` meets its contract.
use borrow.Author.Rules.{rules}
use Rattle.records.specs.Refusals.{record_rules}
use Rattle.records.proofs.Chains.{then_failed, then_fine}
use Rattle.records.proofs.record.check_record.Goals as goal

pub returns-in_default : goal.returns-in_default
unfolding record_rules
returns-in_default c = search (then_failed, rules)

pub returns : goal.returns
unfolding record_rules
returns c = search (then_fine, rules)
