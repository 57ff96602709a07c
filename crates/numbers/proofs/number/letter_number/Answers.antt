-- `numbers::number::letter_number` meets its contract.
use borrow.Author.Rules.{rules}
use Rattle.numbers.specs.Numbers.{letter_number}
use Rattle.numbers.proofs.number.letter_number.Goals as goal

pub returns-then-letter-ge97 : goal.returns-then-letter-ge97
unfolding letter_number
returns-then-letter-ge97 c = search rules

pub returns-else-letter-ge97 : goal.returns-else-letter-ge97
unfolding letter_number
returns-else-letter-ge97 c = search rules
