-- `lines::push_number` meets its contract.
use borrow.Author.Rules.{rules}
use Rattle.lines.proofs.Texts.{decimal_is}
use Rattle.lines.proofs.push_number.Goals as goal

pub returns-clause-text : goal.returns-clause-text
returns-clause-text c = search (decimal_is, rules)
