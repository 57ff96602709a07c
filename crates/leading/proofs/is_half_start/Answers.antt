-- `leading::is_half_start` meets its contract: one law for each test.
use borrow.Author.Rules.{rules}
use Rattle.leading.proofs.Leading.{half-begins, half_blank, half_odd, half-short}
use Rattle.leading.proofs.is_half_start.Goals as goal
use Rattle.leading.proofs.is_half_start.Goals.{else-size-eq0, else-size-ne0, then-size-eq0, then-size-ne0}

pub returns-then-size-begun : goal.returns-then-size-begun
returns-then-size-begun c = λ w told. elim c.if-size-eq0.branch [
  | then-size-eq0 h ↦ elim c.if-size-ne0.branch [ then-size-ne0 n ↦ search (half-begins, rules) | else-size-ne0 n ↦ search rules ]
  | else-size-eq0 h ↦ search rules
]

pub returns-else-size-begun : goal.returns-else-size-begun
returns-else-size-begun c = λ w told. elim c.if-size-eq0.branch [
  | then-size-eq0 h ↦ elim c.if-size-ne0.branch [ then-size-ne0 n ↦ search (half-short, rules) | else-size-ne0 n ↦ search rules ]
  | else-size-eq0 h ↦ elim c.if-size-ne0.branch [ then-size-ne0 n ↦ search (half_odd, rules) | else-size-ne0 n ↦ search (half_blank, rules) ]
]
