-- `output::print` meets its contract.
use Rattle.std.proofs.Common.{◌∙◌, sym}
use Rattle.printing.proofs.Printing.{prints_as}
use Rattle.output.proofs.Calling.{refused_from}
use Rattle.output.proofs.Meaning.{print_means}
use Rattle.output.proofs.print.Goals as goal

pub returns-in_default-clause-means : goal.returns-in_default-clause-means
returns-in_default-clause-means c = print_means _ _ _ c.print_kept.ensures

pub returns : goal.returns
returns c =
    let refused = refused_from c.args.kept.now c.args.size (sym c.check_input.ensures ∙ c.in-Err.is) in
    let printed = prints_as (sym refused) c.print_refusal.ensures in
    record { answer = printed.answered; out = printed.wrote; means = print_means _ _ _ printed }
