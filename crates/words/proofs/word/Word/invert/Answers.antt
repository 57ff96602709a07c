-- `words::word::Word::invert` meets its contract.
use borrow.Author.Rules.{rules}
use Rattle.words.proofs.Joining.{inverse_freely_reduced}
use Rattle.words.proofs.word.Word.invert.Goals as goal

pub invariant_of-self : goal.invariant_of-self
invariant_of-self g c = search (inverse_freely_reduced, rules)
