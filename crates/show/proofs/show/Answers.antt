-- `show::show` meets its contract.
use borrow.Author.Rules.{rules}
use Rattle.show.proofs.Showing.{show_lengths, show_uneven, show_outside, show_beyond, show_given, show_reduced}
use Rattle.show.proofs.show.Goals as goal
use Rattle.show.proofs.show.Goals.{then-reduced-given-via-then-reduced-given, then-reduced-given-via-else-reduced-given+then-reduced-ne0}

pub returns-then-reduced-given : goal.returns-then-reduced-given
returns-then-reduced-given c =
    elim c.then-reduced-given.branch [
      | then-reduced-given-via-then-reduced-given w ↦ search (show_lengths, rules)
      | then-reduced-given-via-else-reduced-given+then-reduced-ne0 w ↦ search (show_uneven, rules)
    ]

pub returns-then-slot-lt97 : goal.returns-then-slot-lt97
returns-then-slot-lt97 c = let outside = c.then-slot-lt97.either in search (show_outside, rules)

pub returns-in_default : goal.returns-in_default
returns-in_default c = let nothing = c.in_default.ensures.lookup in search (show_beyond, rules)

pub returns-then-record-eq-STOP : goal.returns-then-record-eq-STOP
returns-then-record-eq-STOP c = let there = c.in-Some.ensures.lookup in search (show_given, rules)

pub returns-else-record-eq-STOP : goal.returns-else-record-eq-STOP
returns-else-record-eq-STOP c = let there = c.in-Some.ensures.lookup in search (show_reduced, rules)
