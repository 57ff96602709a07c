-- `half_ends::half_elsewhere` meets its contract. The invariant: no slot passed has such a word.
use borrow.Author.Rules.{rules}
use Rattle.half_ends.proofs.HalfSearch.{elsewhere_begin, elsewhere_end, elsewhere_met, elsewhere_own, elsewhere_turn}
use Rattle.half_ends.proofs.half_elsewhere.Goals as goal
use Rattle.half_ends.proofs.half_elsewhere.Goals.{else-i-h-via-else-i-h, else-i-h-via-then-i-h+else-meets_half}

pub loop-i-init : goal.loop-i-init
loop-i-init c = search (elsewhere_begin, rules)

pub returns-then-meets_half : goal.returns-then-meets_half
returns-then-meets_half c = search (c.if-i-h.true, elsewhere_met, rules)

pub loop-i-preserved : goal.loop-i-preserved
loop-i-preserved c = elim c.else-i-h.branch [
  | else-i-h-via-then-i-h+else-meets_half w ↦ search (w.if-i-h.true, elsewhere_turn, rules)
  | else-i-h-via-else-i-h w ↦ search (elsewhere_own, rules)
]

pub returns : goal.returns
returns c = search (elsewhere_end, rules)
