-- `half_ends::meets_half` meets its contract.
use borrow.Author.Rules.{rules}
use Rattle.half_ends.proofs.HalfSearch.{half_met, half-other, halves_inside}
use Rattle.half_ends.proofs.meets_half.Goals as goal

pub begins_alike-requires-clause-half_inside : goal.begins_alike-requires-clause-half_inside
begins_alike-requires-clause-half_inside c =
    let source = c.signed-halved.ensures.words c.args.h in (search (halves_inside, rules), search rules)

pub returns-then-begins_alike : goal.returns-then-begins_alike
returns-then-begins_alike c = let source = c.signed-halved.ensures.words c.args.h in search (half_met, rules)

pub returns-else-begins_alike : goal.returns-else-begins_alike
returns-else-begins_alike c = let source = c.signed-halved.ensures.words c.args.h in search (half-other, rules)
