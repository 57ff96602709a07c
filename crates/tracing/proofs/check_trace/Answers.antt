-- `tracing::check_trace` meets its contract: each way out is the first test of trace_tests that fails, and the last way out passes them all.
use borrow.Author.Rules.{rules}
use Rattle.records.proofs.Chains.{then_failed, then_fine}
use Rattle.tracing.specs.Tracing.{trace_tests}
use Rattle.tracing.proofs.check_trace.Goals as goal

pub returns-in_default : goal.returns-in_default
unfolding trace_tests
returns-in_default c = search (then_failed, rules)

pub returns-in_default-targeted : goal.returns-in_default-targeted
unfolding trace_tests
returns-in_default-targeted c = search (then_failed, then_fine, rules)

pub returns : goal.returns
unfolding trace_tests
returns c = search (then_fine, rules)
