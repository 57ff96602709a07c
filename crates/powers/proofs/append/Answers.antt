-- `powers::append` meets its contract.
use borrow.Author.Rules.{rules}
use Rattle.powers.proofs.Bounded.{joined, joined_short}
use Rattle.powers.proofs.append.Goals as goal

pub returns-then-len-le-MOST : goal.returns-then-len-le-MOST
returns-then-len-le-MOST c = joined_short _ _ c.in-Some.is c.in-Some-second.is c.multiply.ensures.product (search rules)

pub returns : goal.returns
returns c = joined _ _ c.in-Some.is c.in-Some-second.is c.copy_from.ensures.letters c.multiply-2.ensures.product c.kept.ensures
