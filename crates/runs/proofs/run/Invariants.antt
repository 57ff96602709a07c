use Rattle.std.proofs.Common.{◌≡◌, length}
use Rattle.runs.proofs.Running.{Standing}
use Rattle.runs.proofs.run.Given as goal

abbrev pub invariant-loop-used : goal.invariant-loop-used
invariant-loop-used l = (length l.log ≡ length l.initial.log) × Standing l.initial.search l.initial.log l.search l.log l.used
