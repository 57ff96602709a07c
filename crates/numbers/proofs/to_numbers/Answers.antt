-- `numbers::to_numbers` meets its contract.
use borrow.Author.Rules.{rules}
use Rattle.std.proofs.Common.{arith, ◌≡◌}
use Rattle.slots.specs.Systems.{slots}
use Rattle.words.proofs.Parts.{mid_length}
use Rattle.records.proofs.Chains.{answered, changed}
use Rattle.numbers.proofs.Meaning.{to_numbers_means}
use Rattle.numbers.proofs.Systems.{letters_fit, numbered_all, numbered_more}
use Rattle.numbers.proofs.to_numbers.Goals as goal

pub loop-k-preserved : goal.loop-k-preserved
loop-k-preserved c = (search (mid_length, rules), search (numbered_more, rules))

pub slice_bounds-write_as_numbers-end : goal.slice_bounds-write_as_numbers-end
slice_bounds-write_as_numbers-end c =
    omega (arith, letters_fit c.args.system.now _ c.check_letters_room-checked.ensures c.in-Ok.is, c.loop-k-test.true, c.as_chunks.ensures.front_len, c.loop-k.auto.numbers)

pub returns-clause-numbers : goal.returns-clause-numbers
returns-clause-numbers c =
    let all : c.loop-k.k ≡ slots c.args.system.now = omega (arith, c.loop-k-test.false, c.loop-k.auto.k-end, c.as_chunks.ensures.front_len) in
    search (numbered_all, changed, rules)

pub returns-clause-means : goal.returns-clause-means
returns-clause-means c done =
    to_numbers_means c.args.system.now c.args.numbers.now c.loop-k.numbers (answered _ c.check_letters_room-checked.ensures c.from-2.ensures) (returns-clause-numbers c) done
