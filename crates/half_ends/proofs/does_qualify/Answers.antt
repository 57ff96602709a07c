-- `half_ends::does_qualify` meets its contract: one law for each test.
use borrow.Author.Rules.{rules}
use Rattle.half_ends.proofs.HalfSearch.{qualified_back, unqualified_blank, unqualified_front, unqualified_odd}
use Rattle.half_ends.proofs.does_qualify.Goals as goal
use Rattle.half_ends.proofs.does_qualify.Goals.{else-size-eq0, else-size-ne0, then-size-eq0, then-size-ne0}

pub returns-then-half_elsewhere : goal.returns-then-half_elsewhere
returns-then-half_elsewhere c = elim c.if-size-eq0.branch [
  | then-size-eq0 v ↦ elim c.if-size-ne0.branch [
    | then-size-ne0 w ↦ search (w.if-size-ne0.true, qualified_back, rules)
    | else-size-ne0 w ↦ search rules
  ]
  | else-size-eq0 v ↦ search rules
]

pub returns-else-half_elsewhere : goal.returns-else-half_elsewhere
returns-else-half_elsewhere c = elim c.if-size-eq0.branch [
  | then-size-eq0 v ↦ elim c.if-size-ne0.branch [
    | then-size-ne0 w ↦ search (w.if-size-ne0.true, unqualified_front, rules)
    | else-size-ne0 w ↦ search rules
  ]
  | else-size-eq0 v ↦ elim c.if-size-ne0.branch [
    | then-size-ne0 w ↦ search (w.if-size-ne0.true, unqualified_odd, rules)
    | else-size-ne0 w ↦ search (unqualified_blank, rules)
  ]
]
