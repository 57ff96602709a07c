-- `folding::filing::lead` meets its contract.
use Rattle.std.proofs.Common.{rules}
use Rattle.folding.proofs.Filed.{lead_none, lead_some}
use Rattle.folding.proofs.filing.lead.Goals as goal

pub returns-then-entry-eq0 : goal.returns-then-entry-eq0
returns-then-entry-eq0 c = search (lead_none, rules)

pub returns : goal.returns
returns c = search (lead_some, rules)
