-- `powers::kept` meets its contract.
use borrow.Author.Rules.{rules}
use Rattle.powers.proofs.Bounded.{kept_long, kept_short}
use Rattle.powers.proofs.kept.Goals as goal

pub returns-then-letters-gt-MOST : goal.returns-then-letters-gt-MOST
returns-then-letters-gt-MOST g c = search (kept_long, rules)

pub returns : goal.returns
returns g c = search (kept_short, rules)
