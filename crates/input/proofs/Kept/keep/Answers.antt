-- `input::Kept::keep` meets its contract.
use borrow.Author.Rules.{rules}
use Rattle.input.proofs.Keeping.{counted_told, keep_means}
use Rattle.input.proofs.Kept.keep.Goals as goal

pub returns-clause-size : goal.returns-clause-size
returns-clause-size c = search (counted_told, rules)

pub returns-clause-means : goal.returns-clause-means
returns-clause-means c = (λ input before. search (counted_told, keep_means, rules))
