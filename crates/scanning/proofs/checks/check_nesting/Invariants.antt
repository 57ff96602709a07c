use Rattle.std.proofs.Common.{◌+◌, ◌≤◌, ◌≡◌, drop}
use Rattle.syntax.specs.Rules.{nesting_rule}
use Rattle.scanning.proofs.checks.check_nesting.Given as goal

abbrev pub invariant-loop-i : goal.invariant-loop-i
invariant-loop-i l = (l.room ≤ 8 + l.i) × (nesting_rule 8 l.text 0 ≡ nesting_rule l.room (drop l.i l.text) l.i)
