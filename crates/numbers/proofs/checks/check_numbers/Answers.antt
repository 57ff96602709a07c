-- `numbers::checks::check_numbers` meets its contract.
use borrow.Author.Rules.{rules}
use Rattle.records.proofs.Chains.{each_fail, each_pass, must_told, then_failed, then_fine}
use Rattle.std.proofs.Common.{arith, ◌<◌, ◌≡◌}
use Rattle.numbers.proofs.Systems.{slot_told}
use Rattle.numbers.specs.Records.{numbers_slots}
use Rattle.numbers.specs.Refusals.{numbers_slot_rules, numbers_system_rules}
use Rattle.numbers.proofs.checks.check_numbers.Goals as goal

pub returns-in_default : goal.returns-in_default
unfolding numbers_system_rules
returns-in_default c = search (then_failed, rules)

pub returns-in_default-even : goal.returns-in_default-even
unfolding numbers_system_rules
returns-in_default-even c = search (then_failed, then_fine, must_told, rules)

pub loop-k-preserved : goal.loop-k-preserved
loop-k-preserved c = search (slot_told, each_pass, rules)

pub returns-in_default-checked : goal.returns-in_default-checked
unfolding numbers_system_rules
returns-in_default-checked c =
    let n = c.args.numbers.now in
    let rule = numbers_slot_rules c.args.back n in
    let inside : c.loop-k.k < numbers_slots n = omega (arith, c.loop-k-test.true, c.as_chunks.ensures.front_len) in
    let told : c.check_record-checked.result ≡ rule c.loop-k.k = search (slot_told, rules) in
    let fails = each_fail rule c.loop-k.k c.loop-k.invariant (numbers_slots n) inside told c.in_default-checked.is in
    search (then_fine, must_told, rules)

pub returns : goal.returns
unfolding numbers_system_rules
returns c =
    let all : c.loop-k.k ≡ numbers_slots c.args.numbers.now = omega (arith, c.loop-k-test.false, c.loop-k.auto.k-end, c.as_chunks.ensures.front_len) in
    search (then_fine, must_told, rules)
