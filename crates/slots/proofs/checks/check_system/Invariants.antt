use Rattle.std.proofs.Common.{◌≡◌}
use Rattle.std.specs.Prelude.{Ok}
use Rattle.records.specs.Refusals.{each_below}
use Rattle.slots.specs.Refusals.{slot_rules}
use Rattle.slots.proofs.checks.check_system.Given as goal

abbrev pub invariant-loop-k : goal.invariant-loop-k
invariant-loop-k l = each_below (slot_rules l.system) l.k ≡ Ok tt
