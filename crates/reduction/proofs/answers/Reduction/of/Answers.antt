-- `reduction::answers::Reduction::of` meets its contract.
use borrow.Author.Rules.{rules}
use Rattle.reduction.proofs.Calls.{summed_told}
use Rattle.reduction.proofs.answers.Reduction.of.Goals as goal

pub returns : goal.returns
returns c = search (summed_told, rules)
