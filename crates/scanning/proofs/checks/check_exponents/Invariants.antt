use Rattle.std.proofs.Common.{◌≡◌, drop}
use Rattle.syntax.specs.Rules.{exponent_rule}
use Rattle.scanning.proofs.checks.check_exponents.Given as goal

abbrev pub invariant-loop-i : goal.invariant-loop-i
invariant-loop-i l = exponent_rule l.text 0 ≡ exponent_rule (drop l.i l.text) l.i
