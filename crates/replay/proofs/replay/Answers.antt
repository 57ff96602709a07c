-- `replay::replay` meets its contract.
use borrow.Author.Rules.{rules}
use Rattle.records.proofs.Chains.{answered, changed, unchanged}
use Rattle.replay.proofs.Calls.{passed_log, passed_room, passed_size, rules_run, rules_tests, run-written}
use Rattle.replay.proofs.replay.Goals as goal

pub returns-in_default : goal.returns-in_default
returns-in_default c = search (answered, unchanged, rules_tests, rules)

pub load-requires : goal.load-requires
load-requires c = search (passed_size, rules)

pub run-ran-requires : goal.run-ran-requires
run-ran-requires c = search (passed_log, rules)

pub returns-in_default-ran-clause-answer : goal.returns-in_default-ran-clause-answer
returns-in_default-ran-clause-answer c = search (answered, rules_run, rules)

pub returns-in_default-ran-clause-words : goal.returns-in_default-ran-clause-words
returns-in_default-ran-clause-words c = search (unchanged, rules_run, rules)

pub store-requires : goal.store-requires
store-requires c = search (passed_room, rules)

pub returns-clause-answer : goal.returns-clause-answer
returns-clause-answer c = search (answered, rules_run, rules)

pub returns-clause-words : goal.returns-clause-words
returns-clause-words c = search (changed, rules_run, run-written, rules)
