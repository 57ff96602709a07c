-- `factoring::factor_target` meets its contract: a product that was found is written, and otherwise the buffer is left alone.
use borrow.Author.Rules.{rules}
use Rattle.factoring.proofs.Factoring.{a_member, no_member, product_kept, product-written}
use Rattle.factoring.proofs.factor_target.Goals as goal

pub returns-in_default-clause-found : goal.returns-in_default-clause-found
returns-in_default-clause-found c = no_member _ c.args.target.now c.reduce.new.self _ (search rules) c.factor.ensures c.in_default.is

pub returns-in_default-clause-product : goal.returns-in_default-clause-product
returns-in_default-clause-product c = product_kept _ c.args.target.now c.reduce.new.self _ (search rules) c.factor.ensures c.in_default.is _

pub returns-clause-found : goal.returns-clause-found
returns-clause-found c = a_member _ c.args.target.now c.reduce.new.self _ (search rules) c.factor.ensures c.in-Some.is

pub returns-clause-product : goal.returns-clause-product
returns-clause-product c = product-written _ c.args.target.now c.reduce.new.self _ (search rules) c.factor.ensures c.in-Some.is _ (search rules) (search rules)
