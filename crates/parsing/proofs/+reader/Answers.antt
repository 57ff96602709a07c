-- The product's calls the factor's at a part that may be the whole text, the factor's hands a bracket on with the whole text, and both of
-- these call the product's at a shorter part.
use borrow.Author.Rules.{rules}
use Rattle.parsing.proofs.Readers.{bracket-before_end, bracket-middle, bracket-room, bracket_calls, bracket_calls_again, bracket_end, bracket_power, bracket_readable, bracket_readable_too, factor_calls, factor_full, factor_inside, factor_less, factor_readable, factor_starts, group-room, group_end, group_power, group_readable, kept_again, letter_power, product_calls, read_all, read_bracket, read_end, read_group, read_letter, size_fits}
use Rattle.parsing.proofs.+reader.Goals as goal
use Rattle.parsing.proofs.+reader.Goals.{product-else-loop-at-test, product-then-loop-at-test+else-starts}

pub bracket-overflow_sub-room : goal.bracket-overflow_sub-room
bracket-overflow_sub-room t c = search (bracket-room, rules)

pub bracket-product-first-requires : goal.bracket-product-first-requires
bracket-product-first-requires t c = (search (bracket_calls, rules), search (bracket_readable, rules))

pub bracket-overflow_add-middle : goal.bracket-overflow_add-middle
bracket-overflow_add-middle t c = search (size_fits, bracket-middle, rules)

pub bracket-slice_bounds-product-count-2 : goal.bracket-slice_bounds-product-count-2
bracket-slice_bounds-product-count-2 t c = search (bracket-middle, rules)

pub bracket-slice_bounds-product-start-2 : goal.bracket-slice_bounds-product-start-2
bracket-slice_bounds-product-start-2 t c = search (bracket-middle, rules)

pub bracket-overflow_sub-room-2 : goal.bracket-overflow_sub-room-2
bracket-overflow_sub-room-2 t c = search (bracket-room, rules)

pub bracket-product-second-requires : goal.bracket-product-second-requires
bracket-product-second-requires t c = (search (bracket_calls_again, rules), search (bracket_readable_too, rules))

pub bracket-overflow_add-end : goal.bracket-overflow_add-end
bracket-overflow_add-end t c = search (size_fits, bracket-before_end, rules)

pub bracket-overflow_add-end-2 : goal.bracket-overflow_add-end-2
bracket-overflow_add-end-2 t c = search (size_fits, bracket_end, rules)

pub bracket-powered-requires : goal.bracket-powered-requires
bracket-powered-requires t c = search (bracket_end, bracket_power, rules)

pub bracket-returns : goal.bracket-returns
bracket-returns t c = search (read_bracket, c.requires.opens, rules)

pub factor-overflow_sub-room : goal.factor-overflow_sub-room
factor-overflow_sub-room t c = search (group-room, rules)

pub factor-product-inner-requires : goal.factor-product-inner-requires
factor-product-inner-requires t c = (search (factor_calls, rules), search (group_readable, rules))

pub factor-overflow_add-end : goal.factor-overflow_add-end
factor-overflow_add-end t c = search (size_fits, group_end, rules)

pub factor-powered-requires : goal.factor-powered-requires
factor-powered-requires t c = search (group_end, group_power, rules)

pub factor-returns-in-40 : goal.factor-returns-in-40
factor-returns-in-40 t c = search (read_group, rules)

pub factor-powered-requires-in_default : goal.factor-powered-requires-in_default
factor-powered-requires-in_default t c = search (letter_power, rules)

pub factor-returns-in_default : goal.factor-returns-in_default
factor-returns-in_default t c = search (read_letter, rules)

pub product-factor-next-requires : goal.product-factor-next-requires
product-factor-next-requires t c = (search (product_calls, rules), search (factor_readable, factor_full, factor_starts, rules))

pub product-overflow_add-at : goal.product-overflow_add-at
product-overflow_add-at t c = search (size_fits, factor_inside, rules)

pub product-loop-at-smaller : goal.product-loop-at-smaller
product-loop-at-smaller t c = search (factor_less, rules)

pub product-loop-at-preserved : goal.product-loop-at-preserved
product-loop-at-preserved t c = search (kept_again, rules)

pub product-returns : goal.product-returns
product-returns t c = elim c.loop-at-test.branch [
  | product-then-loop-at-test+else-starts w ↦ search (read_all, rules)
  | product-else-loop-at-test w ↦ search (read_end, rules)
]
