-- `numbers::number::absolute_value` meets its contract.
use borrow.Author.Rules.{rules}
use Rattle.numbers.proofs.Numbers.{absolute_value_told}
use Rattle.numbers.proofs.number.absolute_value.Goals as goal

pub returns : goal.returns
returns c = search (absolute_value_told, rules)
