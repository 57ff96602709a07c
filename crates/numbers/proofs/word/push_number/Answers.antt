-- `numbers::word::push_number` meets its contract.
use borrow.Author.Rules.{rules}
use Rattle.words.proofs.Stack.{stack_first, stack_cancel, stack_keep}
use Rattle.numbers.specs.Numbers.{signed_numbers}
use Rattle.numbers.proofs.Numbers.{number_laws}
use Rattle.numbers.proofs.word.push_number.Goals.{else-size-gt0-via-then-size-gt0+else-stack-size, else-size-gt0-via-else-size-gt0}
use Rattle.numbers.proofs.word.push_number.Goals as goal

pub returns-then-stack-size-clause-product : goal.returns-then-stack-size-clause-product
returns-then-stack-size-clause-product c = search (stack_cancel signed_numbers number_laws, rules)

pub returns-clause-product : goal.returns-clause-product
returns-clause-product c = elim c.else-size-gt0.branch [
  | else-size-gt0-via-then-size-gt0+else-stack-size w ↦ search (stack_keep signed_numbers number_laws, rules)
  | else-size-gt0-via-else-size-gt0 w ↦ search (stack_first signed_numbers number_laws, rules)
]
