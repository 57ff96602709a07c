-- `runs::find_move` meets its contract.
use borrow.Author.Rules.{rules}
use Rattle.runs.proofs.Running.{shortening_found, half_end_found}
use Rattle.runs.proofs.find_move.Goals as goal

pub returns-in_default-clause-found : goal.returns-in_default-clause-found
returns-in_default-clause-found c = search (shortening_found, rules)

pub returns-clause-found : goal.returns-clause-found
returns-clause-found c = search (half_end_found, rules)
