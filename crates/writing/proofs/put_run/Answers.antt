-- `writing::put_run` meets its contract.
use borrow.Author.Rules.{rules}
use borrow.Author.Tests.{ne_eqb}
use Rattle.words.proofs.Writers.{puts_next}
use Rattle.writing.proofs.put_run.Goals as goal

pub returns-else-count-eq1-clause-run : goal.returns-else-count-eq1-clause-run
returns-else-count-eq1-clause-run c = search (puts_next, ne_eqb, rules)
