-- `membership::check_member` meets its contract: each way out is the first test of member_tests that fails,
-- and the last way out passes them all.
use borrow.Author.Rules.{rules}
use Rattle.records.proofs.Chains.{then_failed, then_fine}
use Rattle.membership.specs.Membership.{member_tests}
use Rattle.membership.proofs.check_member.Goals as goal

pub returns-in_default : goal.returns-in_default
unfolding member_tests
returns-in_default c = search (then_failed, rules)

pub returns-in_default-targeted : goal.returns-in_default-targeted
unfolding member_tests
returns-in_default-targeted c = search (then_failed, then_fine, rules)

pub returns-in_default-roomy : goal.returns-in_default-roomy
unfolding member_tests
returns-in_default-roomy c = search (then_failed, then_fine, rules)

pub returns : goal.returns
unfolding member_tests
returns c = search (then_fine, rules)
