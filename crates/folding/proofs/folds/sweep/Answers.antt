-- `folding::folds::sweep` meets its contract.
use Rattle.std.proofs.Common.{rules}
use Rattle.folding.proofs.Sweeping.{fits_along, backward_high, backward_low, swept_all, swept_next}
use Rattle.folding.proofs.folds.sweep.Goals as goal

pub file-backward-requires-clause-fits : goal.file-backward-requires-clause-fits
file-backward-requires-clause-fits c = search (fits_along, rules)

pub file-backward-requires-clause-letter : goal.file-backward-requires-clause-letter
file-backward-requires-clause-letter c = search (backward_high, backward_low, rules)

pub loop-turn-preserved : goal.loop-turn-preserved
loop-turn-preserved c = search (swept_next, rules)

pub returns : goal.returns
returns c = search (swept_all, rules)
