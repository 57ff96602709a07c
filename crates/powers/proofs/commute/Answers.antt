-- `powers::commute` meets its contract.
use Rattle.powers.proofs.Bounded.{commuted}
use Rattle.powers.proofs.commute.Goals as goal

pub returns : goal.returns
returns c =
    commuted _ _ c.in_ok-u.was c.in_ok-v.was c.new-product.ensures c.multiply.ensures.product c.multiply-2.ensures.product
    c.multiply-3.ensures.product c.multiply-4.ensures.product c.kept.ensures
