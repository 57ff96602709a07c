-- `numbers::word::reduce` meets its contract. The buffer begins with what the numbers read so far freely reduce to.
use borrow.Author.Rules.{rules}
use Rattle.words.proofs.Stack.{read_freely_reduced, read_more}
use Rattle.numbers.specs.Numbers.{signed_numbers}
use Rattle.numbers.proofs.Numbers.{number_laws}
use Rattle.numbers.proofs.word.reduce.Goals as goal

pub push_number-size-requires-clause-freely : goal.push_number-size-requires-clause-freely
push_number-size-requires-clause-freely c = search (read_freely_reduced signed_numbers number_laws, rules)

pub loop-x-preserved : goal.loop-x-preserved
loop-x-preserved c = (search rules, search (read_more signed_numbers number_laws, rules))
