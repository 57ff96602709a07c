-- `words::product::push_signed` meets its contract.
use borrow.Author.Rules.{rules}
use Rattle.words.proofs.Joining.{push-product}
use Rattle.words.proofs.product.push_signed.Goals as goal

pub returns-clause-product : goal.returns-clause-product
returns-clause-product c = search (push-product, rules)
