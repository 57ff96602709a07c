-- `multiply::check_multiply` meets its contract.
use borrow.Author.Rules.{rules}
use Rattle.records.proofs.Chains.{then_failed, then_fine}
use Rattle.records.proofs.Targets.{target_told}
use Rattle.multiply.specs.Multiply.{multiply_tests}
use Rattle.multiply.proofs.check_multiply.Goals as goal

pub returns-in_default : goal.returns-in_default
unfolding multiply_tests
returns-in_default c = search (then_failed, rules)

pub returns-in_default-targeted : goal.returns-in_default-targeted
unfolding multiply_tests
returns-in_default-targeted c = search (then_failed, then_fine, rules)

pub as_record-requires : goal.as_record-requires
as_record-requires c = search (target_told, rules)

pub returns-in_default-slotted : goal.returns-in_default-slotted
unfolding multiply_tests
returns-in_default-slotted c = search (then_failed, then_fine, rules)

pub returns : goal.returns
unfolding multiply_tests
returns c = search (then_fine, rules)
