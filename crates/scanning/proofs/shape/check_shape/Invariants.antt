use Rattle.std.proofs.Common.{◌≡◌, ◌≤◌, drop, length}
use Rattle.syntax.specs.Scan.{scan, shape_rule, state}
use Rattle.scanning.proofs.shape.check_shape.Given as goal

abbrev pub invariant-loop-i : goal.invariant-loop-i
invariant-loop-i l = (length l.signs ≤ l.i) × (shape_rule l.text ≡ scan (state l.mode l.signs) (drop l.i l.text) l.i)
