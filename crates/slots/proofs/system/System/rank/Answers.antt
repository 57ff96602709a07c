-- `slots::system::System::rank` meets its contract.
use borrow.Author.Rules.{rules}
use borrow.Author.Tests.{tests}
use mathlib.Core.Path.{◌∙◌}
use Rattle.std.proofs.lemmas.Iterator.{YieldsList-from_slice}
use Rattle.std.proofs.lemmas.Iterator.Consumers.{YieldsList-from_filter, count_from_yields_List}
use Rattle.slots.proofs.Systems.{not_empty, not_empty_told, rank_counts}
use Rattle.slots.proofs.system.System.rank.Goals as goal

pub returns : goal.returns
returns c =
    count_from_yields_List _ c.count.result c.count.ensures.ran
    (YieldsList-from_filter _ not_empty (YieldsList-from_slice c.args.self.now cc) c.filter.ensures.closure (λ x b q k. search (not_empty_told, rules, tests)))
    ∙ rank_counts c.args.self.now
