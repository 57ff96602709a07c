-- `numbers::record::check_within_26` meets its contract.
use borrow.Author.Rules.{rules}
use borrow.Author.Tests.{tests}
use mathlib.Core.Bool.{not}
use Rattle.std.proofs.lemmas.Iterator.{YieldsList-from_slice}
use Rattle.std.proofs.lemmas.Iterator.Search.{position_from_yields_List}
use Rattle.records.specs.declared.refusals.Reason.TheVariants.{NumberWithoutLetter}
use Rattle.numbers.specs.Numbers.{within_26}
use Rattle.numbers.proofs.Rules.{numbers_fail, numbers_pass}
use Rattle.numbers.proofs.record.check_within_26.Goals as goal

pub returns-in_default : goal.returns-in_default
returns-in_default c =
    let found = position_from_yields_List (λ x. not (within_26 x)) _ _ c.position.result c.position.ensures.ran (YieldsList-from_slice c.args.numbers.now cc)
    (λ x b q k. search (rules, tests)) in
    numbers_pass within_26 NumberWithoutLetter c.args.numbers.now c.args.at found c.in_default.is

pub returns : goal.returns
returns c =
    let found = position_from_yields_List (λ x. not (within_26 x)) _ _ c.position.result c.position.ensures.ran (YieldsList-from_slice c.args.numbers.now cc)
    (λ x b q k. search (rules, tests)) in
    numbers_fail within_26 NumberWithoutLetter c.args.numbers.now c.args.at found c.in-Some.is (search rules)
