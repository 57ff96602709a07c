-- `numbers::tidy_numbers` meets its contract.
use borrow.Author.Rules.{rules}
use Rattle.std.proofs.Common.{arith, ◌≡◌}
use Rattle.numbers.specs.Records.{numbers_slots}
use Rattle.words.proofs.Parts.{mid_length}
use Rattle.records.proofs.Chains.{answered, changed}
use Rattle.numbers.proofs.Meaning.{tidy_numbers_means}
use Rattle.numbers.proofs.Systems.{numbers_fit, reduced_all, reduced_more}
use Rattle.numbers.proofs.tidy_numbers.Goals as goal

pub loop-k-preserved : goal.loop-k-preserved
loop-k-preserved c = (search (mid_length, rules), search (reduced_more, rules))

pub slice_bounds-write_reduced-end : goal.slice_bounds-write_reduced-end
slice_bounds-write_reduced-end c =
    omega (arith, numbers_fit _ c.args.numbers.now _ _ c.check_numbers_room-checked.ensures c.in-Ok.is, c.loop-k-test.true, c.as_chunks.ensures.front_len, c.loop-k.auto.tidied)

pub returns-clause-tidied : goal.returns-clause-tidied
returns-clause-tidied c =
    let all : c.loop-k.k ≡ numbers_slots c.args.numbers.now = omega (arith, c.loop-k-test.false, c.loop-k.auto.k-end, c.as_chunks.ensures.front_len) in
    search (reduced_all, changed, rules)

pub returns-clause-means : goal.returns-clause-means
returns-clause-means c done =
    tidy_numbers_means c.args.numbers.now c.args.tidied.now c.loop-k.tidied (answered _ c.check_numbers_room-checked.ensures c.from-2.ensures) (returns-clause-tidied c) done
