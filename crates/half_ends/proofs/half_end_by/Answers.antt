-- `half_ends::half_end_by` meets its contract. The invariant: no slot passed is changed.
use borrow.Author.Rules.{rules}
use Rattle.half_ends.proofs.HalfSearch.{kept_at_beginning, kept_at_end, kept_begin, kept_end, kept_own, kept_turn}
use Rattle.half_ends.proofs.half_end_by.Goals as goal
use Rattle.half_ends.proofs.half_end_by.Goals.{else-k-h, then-k-h+else-half-common_prefix+else-half-common_prefix-2}

pub loop-k-init : goal.loop-k-init
loop-k-init c = search (kept_begin, rules)

pub returns-then-half-common_prefix-clause-found : goal.returns-then-half-common_prefix-clause-found
returns-then-half-common_prefix-clause-found c = search (c.if-k-h.true, kept_at_end, rules)

pub returns-then-half-common_prefix-2-clause-found : goal.returns-then-half-common_prefix-2-clause-found
returns-then-half-common_prefix-2-clause-found c =
    kept_at_beginning _ _ _ c.loop-k.invariant _ c.inverses-inverses.ensures _ _ c.word-other_inverse.ensures.word c.word.ensures.word _
    c.common_prefix.ensures.common c.if-k-h.true (search rules) _ c.words-words.ensures _ c.word-then-k-h.ensures.word _
    c.common_prefix-then-k-h.ensures.common c.if-half-common_prefix.false c.if-half-common_prefix-2.true

pub loop-k-preserved : goal.loop-k-preserved
loop-k-preserved c = elim c.if-k-h.branch [
  | then-k-h+else-half-common_prefix+else-half-common_prefix-2 w ↦
      kept_turn _ _ _ c.loop-k.invariant _ c.inverses-inverses.ensures _ _ c.word-other_inverse.ensures.word w.word.ensures.word _
      w.common_prefix.ensures.common w.if-k-h.true (search rules) _ c.words-words.ensures _ w.word-then-k-h.ensures.word _
      w.common_prefix-then-k-h.ensures.common w.if-half-common_prefix.false w.if-half-common_prefix-2.false
  | else-k-h w ↦ search (kept_own, rules)
]

pub returns-clause-found : goal.returns-clause-found
returns-clause-found c = search (kept_end, rules)
