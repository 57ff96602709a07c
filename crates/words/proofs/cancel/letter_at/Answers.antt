-- `words::cancel::letter_at` meets its contract.
use borrow.Author.Rules.{rules}
use Rattle.words.proofs.Counting.{letter_inverted}
use Rattle.words.proofs.cancel.letter_at.Goals as goal

pub returns-then-inverted : goal.returns-then-inverted
returns-then-inverted c = search (letter_inverted, rules)
