use Rattle.std.proofs.Common.{◌≡◌}
use Rattle.std.specs.Prelude.{Ok}
use Rattle.records.specs.Refusals.{each_below}
use Rattle.moves.specs.Logs.{moves_in}
use Rattle.replay.specs.Replay.{ran_before, replayed, turn_rule}
use Rattle.replay.proofs.run.Given as goal

abbrev pub invariant-loop-done : goal.invariant-loop-done
invariant-loop-done l =
    (each_below (turn_rule l.backward l.initial.system l.log) l.done ≡ Ok tt)
    × (l.system ≡ replayed l.backward l.initial.system (ran_before l.backward (moves_in l.log) l.done))
