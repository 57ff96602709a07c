-- `half_ends::signed` meets its contract.
use Rattle.inverses.proofs.Inverting.{inverse_at}
use Rattle.half_ends.proofs.signed.Goals as goal

pub returns-then-inverted-clause-words : goal.returns-then-inverted-clause-words
returns-then-inverted-clause-words c = λ k. rw (c.if-inverted.true, c.inverses.ensures) (inverse_at c.args.system.now k)
