-- `reduction::test::is_reduced` meets its contract.
use borrow.Author.Rules.{rules}
use Rattle.std.proofs.Common.{ap, ◌∙◌}
use Rattle.std.specs.Prelude.{is_none}
use Rattle.words.specs.Alphabet.{bytes}
use Rattle.systems.proofs.Finding.{found_next-none}
use Rattle.reduction.proofs.test.is_reduced.Goals as goal

pub returns-clause-reduced : goal.returns-clause-reduced
returns-clause-reduced c =
    let same = ap is_none c.find_move.ensures.found.found ∙ found_next-none bytes c.args.search.now in
    search rules
