-- `numbers::number::flip` meets its contract.
use borrow.Author.Rules.{rules}
use Rattle.numbers.specs.Numbers.{flip_number}
use Rattle.numbers.proofs.number.flip.Goals as goal

pub returns : goal.returns
unfolding flip_number
returns c = search rules
