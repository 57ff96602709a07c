-- `words::word::Word::multiply` meets its contract.
use borrow.Author.Rules.{rules}
use Rattle.words.proofs.Joining.{pushed_freely_reduced}
use Rattle.words.proofs.word.Word.multiply.Goals as goal

pub invariant_of-self : goal.invariant_of-self
invariant_of-self g c = (search rules, search (pushed_freely_reduced, rules))
