-- `lines::first_line` meets its contract.
use Rattle.std.proofs.Common.{append_assoc, rules}
use Rattle.lines.specs.Lines.{first_line}
use Rattle.lines.proofs.first_line.Goals as goal

pub returns-clause-line : goal.returns-clause-line
unfolding first_line
returns-clause-line c = search (append_assoc, rules)
