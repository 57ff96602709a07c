-- `words::product::append_rest` meets its contract.
use borrow.Author.Rules.{rules}
use Rattle.words.proofs.Joining.{inverse-rest}
use Rattle.words.proofs.product.append_rest.Goals as goal

pub returns-then-inverted : goal.returns-then-inverted
returns-then-inverted c = search (inverse-rest, rules)
