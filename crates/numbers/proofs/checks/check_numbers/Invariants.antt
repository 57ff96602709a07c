use Rattle.std.proofs.Common.{◌≡◌}
use Rattle.std.specs.Prelude.{Ok}
use Rattle.records.specs.Refusals.{each_below}
use Rattle.numbers.specs.Refusals.{numbers_slot_rules}
use Rattle.numbers.proofs.checks.check_numbers.Given as goal

abbrev pub invariant-loop-k : goal.invariant-loop-k
invariant-loop-k l = each_below (numbers_slot_rules l.back l.numbers) l.k ≡ Ok tt
