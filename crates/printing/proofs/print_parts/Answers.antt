-- `printing::print_parts` meets its contract.
use borrow.Author.Rules.{rules}
use Rattle.printing.proofs.Printing.{parts_whole}
use Rattle.printing.proofs.print_parts.Goals as goal

pub returns : goal.returns
returns c = search (parts_whole, rules)
