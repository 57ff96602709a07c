-- `numbers::record::check_layout` meets its contract: each of its searches gives the first place at which its test is passed.
use borrow.Author.Rules.{rules}
use borrow.Author.Tests.{tests}
use lib.ListN.{drop, take}
use mathlib.Core.Bool.{not}
use Rattle.std.proofs.lemmas.Iterator.{YieldsList-from_slice}
use Rattle.std.proofs.lemmas.Iterator.Search.{position_from_yields_List}
use Rattle.std.proofs.lemmas.List.{take_rest}
use Rattle.numbers.specs.Numbers.{is_number}
use Rattle.numbers.specs.Records.{is_zero}
use Rattle.numbers.proofs.Rules.{laid_late, laid_out}
use Rattle.numbers.proofs.record.check_layout.Goals as goal

pub returns-in_default : goal.returns-in_default
returns-in_default c =
    let numbers = position_from_yields_List (λ x. not (is_number x)) _ _ c.position.result c.position.ensures.ran
    (YieldsList-from_slice (take 63 c.args.numbers.now) cc) (λ x b q k. search (rules, tests)) in
    let late = position_from_yields_List (λ x. not (is_zero x)) _ _ c.position-2.result c.position-2.ensures.ran
    (YieldsList-from_slice (drop c.unwrap_or-end.result c.args.numbers.now) (search (take_rest, rules))) (λ x b q k. search (rules, tests)) in
    laid_out c.args.numbers.now c.args.at c.told-numbers numbers c.unwrap_or-end.ensures late c.in_default.is

pub returns : goal.returns
returns c =
    let numbers = position_from_yields_List (λ x. not (is_number x)) _ _ c.position.result c.position.ensures.ran
    (YieldsList-from_slice (take 63 c.args.numbers.now) cc) (λ x b q k. search (rules, tests)) in
    let late = position_from_yields_List (λ x. not (is_zero x)) _ _ c.position-2.result c.position-2.ensures.ran
    (YieldsList-from_slice (drop c.unwrap_or-end.result c.args.numbers.now) (search (take_rest, rules))) (λ x b q k. search (rules, tests)) in
    laid_late c.args.numbers.now c.args.at c.told-numbers numbers c.unwrap_or-end.ensures late c.in-Some.is (search rules)
