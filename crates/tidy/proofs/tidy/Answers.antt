-- `tidy::tidy` meets its contract.
use borrow.Author.Rules.{rules}
use Rattle.slots.proofs.Systems.{both_size}
use Rattle.records.proofs.Chains.{answered, changed}
use Rattle.tidy.proofs.Meaning.{tidy_means}
use Rattle.tidy.proofs.Calls.{tidied_fits}
use Rattle.tidy.proofs.tidy.Goals as goal

pub load-requires : goal.load-requires
load-requires c = search (both_size, rules)

pub store-requires : goal.store-requires
store-requires c = search (tidied_fits, rules)

pub returns-clause-words : goal.returns-clause-words
returns-clause-words c = search (changed, rules)

pub returns-clause-means : goal.returns-clause-means
returns-clause-means c done =
    tidy_means c.args.system.now c.args.words.now c.store.new.records (answered _ c.check_system_room-checked.ensures c.from-2.ensures) (returns-clause-words c) done
