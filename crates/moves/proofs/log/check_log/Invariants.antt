use Rattle.std.proofs.Common.{◌≡◌}
use Rattle.std.specs.Prelude.{Ok}
use Rattle.records.specs.Refusals.{each_below}
use Rattle.moves.specs.Logs.{move_rule}
use Rattle.moves.proofs.log.check_log.Given as goal

abbrev pub invariant-loop-j : goal.invariant-loop-j
invariant-loop-j l = (each_below (move_rule l.n l.log) l.j ≡ Ok tt)
