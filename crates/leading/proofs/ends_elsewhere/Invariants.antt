use mathlib.Core.Bool.{false}
use mathlib.Core.Path.{◌≡◌}
use Rattle.leading.specs.Leads.{ends_elsewhere}
use Rattle.leading.proofs.ends_elsewhere.Given as goal

abbrev pub invariant-loop-j : goal.invariant-loop-j
invariant-loop-j l = (ends_elsewhere l.j l.system l.x ≡ false)
