-- `half_ends::begins_alike` meets its contract.
use Rattle.half_ends.proofs.HalfSearch.{pairs_unalike}
use Rattle.half_ends.proofs.begins_alike.Goals as goal

pub returns-then-letter_pair : goal.returns-then-letter_pair
returns-then-letter_pair c =
    pairs_unalike c.args.half _ _ _ _ c.requires.half_inside.0 c.letter_pair.ensures c.letter_pair-2.ensures c.if-letter_pair.true
