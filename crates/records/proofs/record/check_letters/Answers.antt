-- `records::record::check_letters` meets its contract: each of its searches gives the first place at which its test is passed.
use borrow.Author.Rules.{rules}
use borrow.Author.Tests.{tests}
use Prim.Native.Nat.{◌+◌}
use lib.ListN.{drop}
use mathlib.Core.Bool.{not}
use Rattle.std.proofs.lemmas.Iterator.{YieldsList-from_slice}
use Rattle.std.proofs.lemmas.Iterator.Search.{position_from_yields_List}
use Rattle.std.proofs.lemmas.List.{take_rest}
use Rattle.records.specs.Records.{is_letter_or_stop, is_stop, not_letter}
use Rattle.records.proofs.Rules.{letter_late, only_letters, only_stops, unknown_late}
use Rattle.records.proofs.record.check_letters.Goals as goal

pub returns-in_default : goal.returns-in_default
returns-in_default c =
    let letters = position_from_yields_List not_letter _ _ c.position.result c.position.ensures.ran (YieldsList-from_slice c.args.bytes.now cc)
    (λ x b q k. search (rules, tests)) in
    only_letters c.args.bytes.now c.args.at letters c.in_default.is

pub returns-in_default-position : goal.returns-in_default-position
returns-in_default-position c =
    let letters = position_from_yields_List not_letter _ _ c.position.result c.position.ensures.ran (YieldsList-from_slice c.args.bytes.now cc)
    (λ x b q k. search (rules, tests)) in
    let stops = position_from_yields_List (λ b. not (is_stop b)) _ _ c.position-2.result c.position-2.ensures.ran
    (YieldsList-from_slice (drop c.in-Some.letters c.args.bytes.now) (search (take_rest, rules))) (λ x b q k. search (rules, tests)) in
    only_stops c.args.bytes.now c.args.at letters c.in-Some.is stops c.in_default-position.is

pub returns-in-Some-unknown : goal.returns-in-Some-unknown
returns-in-Some-unknown c =
    let letters = position_from_yields_List not_letter _ _ c.position.result c.position.ensures.ran (YieldsList-from_slice c.args.bytes.now cc)
    (λ x b q k. search (rules, tests)) in
    let stops = position_from_yields_List (λ b. not (is_stop b)) _ _ c.position-2.result c.position-2.ensures.ran
    (YieldsList-from_slice (drop c.in-Some.letters c.args.bytes.now) (search (take_rest, rules))) (λ x b q k. search (rules, tests)) in
    let unknown = position_from_yields_List (λ b. not (is_letter_or_stop b)) _ _ c.position-unknown.result c.position-unknown.ensures.ran
    (YieldsList-from_slice (drop (c.in-Some.letters + c.in-Some-position.stops) c.args.bytes.now) (search (take_rest, rules)))
    (λ x b q k. search (rules, tests)) in
    unknown_late c.args.bytes.now c.args.at letters c.in-Some.is stops c.in-Some-position.is unknown c.in-Some-unknown.is (search rules)

pub returns-in-None : goal.returns-in-None
returns-in-None c =
    let letters = position_from_yields_List not_letter _ _ c.position.result c.position.ensures.ran (YieldsList-from_slice c.args.bytes.now cc)
    (λ x b q k. search (rules, tests)) in
    let stops = position_from_yields_List (λ b. not (is_stop b)) _ _ c.position-2.result c.position-2.ensures.ran
    (YieldsList-from_slice (drop c.in-Some.letters c.args.bytes.now) (search (take_rest, rules))) (λ x b q k. search (rules, tests)) in
    let unknown = position_from_yields_List (λ b. not (is_letter_or_stop b)) _ _ c.position-unknown.result c.position-unknown.ensures.ran
    (YieldsList-from_slice (drop (c.in-Some.letters + c.in-Some-position.stops) c.args.bytes.now) (search (take_rest, rules)))
    (λ x b q k. search (rules, tests)) in
    letter_late c.args.bytes.now c.args.at letters c.in-Some.is stops c.in-Some-position.is unknown c.in-None.is (search rules)
