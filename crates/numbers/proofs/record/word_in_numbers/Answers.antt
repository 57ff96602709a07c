-- `numbers::record::word_in_numbers` meets its contract.
use borrow.Author.Rules.{rules}
use borrow.Author.Tests.{tests}
use lib.ListN.{take}
use Rattle.std.proofs.lemmas.Iterator.{YieldsList-from_slice}
use Rattle.std.proofs.lemmas.Iterator.Search.{position_from_yields_List}
use Rattle.numbers.specs.Records.{is_zero}
use Rattle.numbers.proofs.Records.{word_ended, word_whole}
use Rattle.numbers.proofs.record.word_in_numbers.Goals as goal

pub returns-in-Some-clause-word : goal.returns-in-Some-clause-word
returns-in-Some-clause-word c =
    word_ended is_zero (take 63 c.args.numbers.now)
    (position_from_yields_List is_zero _ _ c.position.result c.position.ensures.ran (YieldsList-from_slice (take 63 c.args.numbers.now) cc) (λ x b q k. search (rules, tests)))
    c.in-Some.is

pub returns-in-None-clause-word : goal.returns-in-None-clause-word
returns-in-None-clause-word c =
    word_whole is_zero (take 63 c.args.numbers.now)
    (position_from_yields_List is_zero _ _ c.position.result c.position.ensures.ran (YieldsList-from_slice (take 63 c.args.numbers.now) cc) (λ x b q k. search (rules, tests)))
    c.in-None.is
