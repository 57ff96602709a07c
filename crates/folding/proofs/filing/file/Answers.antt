-- `folding::filing::file` meets its contract: nothing is filed yet, or the step agrees with what is, or two points are made one.
use Rattle.std.proofs.Common.{rules}
use Rattle.folding.proofs.Filed.{vacant_folds, vacant_points, vacant_index, agrees_folds, agrees_points, differs_folds, differs_points, found_index}
use Rattle.folding.proofs.filing.file.Goals as goal

pub returns-in_default-clause-folds : goal.returns-in_default-clause-folds
returns-in_default-clause-folds c = search (vacant_folds, rules)

pub returns-in_default-clause-points : goal.returns-in_default-clause-points
returns-in_default-clause-points c = search (vacant_points, rules)

pub returns-in_default-clause-index : goal.returns-in_default-clause-index
returns-in_default-clause-index c = search (vacant_index, rules)

pub returns-then-other-to-clause-folds : goal.returns-then-other-to-clause-folds
returns-then-other-to-clause-folds c = search (agrees_folds, rules)

pub returns-then-other-to-clause-points : goal.returns-then-other-to-clause-points
returns-then-other-to-clause-points c = search (agrees_points, rules)

pub returns-then-other-to-clause-index : goal.returns-then-other-to-clause-index
returns-then-other-to-clause-index c = search (found_index, rules)

pub returns-clause-folds : goal.returns-clause-folds
returns-clause-folds c = search (differs_folds, rules)

pub returns-clause-points : goal.returns-clause-points
returns-clause-points c = search (differs_points, rules)

pub returns-clause-index : goal.returns-clause-index
returns-clause-index c = search (found_index, rules)
