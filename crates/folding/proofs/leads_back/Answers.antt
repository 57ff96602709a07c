-- `folding::leads_back` meets its contract.
use Rattle.std.proofs.Common.{rules}
use Rattle.graphs.proofs.Walks.{walk_all, walk_on, walk_over}
use Rattle.folding.proofs.Tracing.{lead_inside, letter_from, letter_to}
use Rattle.folding.proofs.leads_back.Goals as goal

pub lead-requires-clause-letter : goal.lead-requires-clause-letter
lead-requires-clause-letter c = (search (letter_from, rules), search (letter_to, rules))

pub returns-in_default : goal.returns-in_default
returns-in_default c = search (walk_over, rules)

pub loop-letter-preserved : goal.loop-letter-preserved
loop-letter-preserved c = (search (lead_inside, rules), search (walk_on, rules))

pub returns : goal.returns
returns c = search (walk_all, rules)
