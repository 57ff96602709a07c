-- `leading::find_big_end` meets its contract. The invariant: none of the factors passed is one.
use borrow.Author.Rules.{rules}
use Rattle.words.specs.Alphabet.{bytes}
use Rattle.systems.specs.Factoring.{big_end}
use Rattle.leading.proofs.Leading.{begun_told, sign, sought_end, sought_missed, sought_taken, sought_turn}
use Rattle.leading.proofs.find_big_end.Goals as goal

pub returns-then-is_big_end-clause-found : goal.returns-then-is_big_end-clause-found
returns-then-is_big_end-clause-found c =
    let begun = begun_told c.args.system.now c.loop-k.k _ _ c.args.word.now _ c.word.ensures.word c.common_prefix_signed-begun.ensures.common in
    let told = c.is_big_end.ensures c.args.word.now begun in
    search (sign, sought_taken (big_end bytes c.args.system.now c.args.word.now), rules)

pub loop-inverted-preserved : goal.loop-inverted-preserved
loop-inverted-preserved c =
    let begun = begun_told c.args.system.now c.loop-k.k _ _ c.args.word.now _ c.word.ensures.word c.common_prefix_signed-begun.ensures.common in
    let told = c.is_big_end.ensures c.args.word.now begun in
    search (sign, sought_missed, rules)

pub loop-k-preserved : goal.loop-k-preserved
loop-k-preserved c = search (sought_turn, rules)

pub returns-clause-found : goal.returns-clause-found
returns-clause-found c = search (sought_end, rules)
