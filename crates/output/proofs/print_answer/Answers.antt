-- `output::print_answer` meets its contract.
use borrow.Author.Rules.{rules}
use Rattle.output.proofs.Calling.{answer_printed, moves_fit}
use Rattle.output.proofs.print_answer.Goals as goal

pub print_reduction-requires-clause-moves : goal.print_reduction-requires-clause-moves
print_reduction-requires-clause-moves c = search (moves_fit, rules)

pub returns : goal.returns
returns c = search (answer_printed, rules)
