-- `half_ends::find_half_end` meets its contract.
use borrow.Author.Rules.{rules}
use Rattle.half_ends.proofs.HalfSearch.{none_chosen}
use Rattle.half_ends.proofs.find_half_end.Goals as goal

pub returns-in_err-h-clause-found : goal.returns-in_err-h-clause-found
returns-in_err-h-clause-found c = search (none_chosen, rules)
