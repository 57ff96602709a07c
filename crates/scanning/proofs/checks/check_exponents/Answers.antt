-- `scanning::checks::check_exponents` meets its contract.
use borrow.Author.Rules.{rules}
use Rattle.scanning.proofs.Steps.{exponents_pass}
use Rattle.scanning.proofs.checks.check_exponents.Goals as goal

pub loop-i-preserved : goal.loop-i-preserved
loop-i-preserved c = search (exponents_pass, rules)
