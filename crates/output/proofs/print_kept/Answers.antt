-- `output::print_kept` meets its contract.
use borrow.Author.Rules.{rules}
use Rattle.output.specs.Output.{output_from, program_output}
use Rattle.output.proofs.Calling.{size_least, size-most}
use Rattle.output.proofs.print_kept.Goals as goal

pub returns-in_default : goal.returns-in_default
unfolding output_from
returns-in_default c = search rules

pub print_answer-requires-clause-least : goal.print_answer-requires-clause-least
print_answer-requires-clause-least c = search (size_least, rules)

pub print_answer-requires-clause-most : goal.print_answer-requires-clause-most
print_answer-requires-clause-most c = search (size-most, rules)

pub returns : goal.returns
unfolding output_from program_output
returns c = search rules
