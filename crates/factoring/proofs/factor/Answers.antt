-- `factoring::factor` meets its contract. The invariant: the letters of the factors taken off are in the list, and the others are those of
-- the product that is left.
use borrow.Author.Rules.{rules}
use Rattle.factoring.proofs.Factoring.{left_end, left_more, left_spent, left_stuck, one_more, was_filled}
use Rattle.factoring.proofs.factor.Goals as goal

pub returns-then-len-eq63 : goal.returns-then-len-eq63
returns-then-len-eq63 c = search (was_filled, left_spent, rules)

pub returns-in_err-x : goal.returns-in_err-x
returns-in_err-x c = search (was_filled, left_stuck, rules)

pub loop-letters-preserved : goal.loop-letters-preserved
loop-letters-preserved c = record { short = search rules; few = search (one_more, rules); left = search (was_filled, left_more, rules) }

pub returns : goal.returns
returns c = search (c.is_empty.ensures.0, left_end, rules)
