-- `powers::raise` meets its contract. The power holds as many factors as the loop has made turns, of at most 63 letters each.
use borrow.Author.Rules.{rules}
use Rattle.powers.proofs.Bounded.{once_more, raised}
use Rattle.powers.proofs.raise.Goals as goal

pub loop-preserved : goal.loop-preserved
loop-preserved c = search (once_more, rules)

pub returns : goal.returns
returns c = raised _ c.args.minus c.args.times c.loop.counter c.in_ok-word.was (search rules) (search rules) (search rules) c.kept.ensures
