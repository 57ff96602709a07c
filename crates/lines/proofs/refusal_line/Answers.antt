-- `lines::refusal_line` meets its contract.
use Rattle.std.proofs.Common.{append_assoc, rules}
use Rattle.lines.specs.Lines.{refusal_line}
use Rattle.lines.proofs.refusal_line.Goals as goal

pub returns-clause-line : goal.returns-clause-line
unfolding refusal_line
returns-clause-line c = search (append_assoc, rules)
