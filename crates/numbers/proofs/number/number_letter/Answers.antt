-- `numbers::number::number_letter` meets its contract.
use borrow.Author.Rules.{rules}
use Rattle.numbers.specs.Numbers.{number_letter}
use Rattle.numbers.proofs.number.number_letter.Goals as goal

pub returns-then-x-le26 : goal.returns-then-x-le26
unfolding number_letter
returns-then-x-le26 c = search rules

pub returns-else-x-le26 : goal.returns-else-x-le26
unfolding number_letter
returns-else-x-le26 c = search rules
