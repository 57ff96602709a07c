-- `words::free_reduction::push_last` meets its contract.
use borrow.Author.Rules.{rules}
use Rattle.words.specs.Alphabet.{bytes}
use Rattle.words.proofs.Alphabet.{byte_laws}
use Rattle.words.proofs.Stack.{stack_first, stack_cancel, stack_keep}
use Rattle.words.proofs.free_reduction.push_last.Goals.{else-n-gt0-via-then-n-gt0+else-stack-n, else-n-gt0-via-else-n-gt0}
use Rattle.words.proofs.free_reduction.push_last.Goals as goal

pub returns-then-stack-n-clause-word : goal.returns-then-stack-n-clause-word
returns-then-stack-n-clause-word c = search (stack_cancel bytes byte_laws, rules)

pub returns-clause-word : goal.returns-clause-word
returns-clause-word c = elim c.else-n-gt0.branch [
  | else-n-gt0-via-then-n-gt0+else-stack-n w ↦ search (stack_keep bytes byte_laws, rules)
  | else-n-gt0-via-else-n-gt0 w ↦ search (stack_first bytes byte_laws, rules)
]
