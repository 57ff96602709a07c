-- `slots::checks::check_system` meets its contract.
use borrow.Author.Rules.{rules}
use Rattle.records.proofs.Chains.{each_fail, each_pass, must_told, then_failed, then_fine}
use Rattle.std.proofs.Common.{arith, ◌<◌, ◌≡◌}
use Rattle.slots.proofs.Systems.{next_told}
use Rattle.slots.specs.Systems.{slots}
use Rattle.slots.specs.Refusals.{slot_rules, system_rules}
use Rattle.slots.proofs.checks.check_system.Goals as goal

pub returns-in_default : goal.returns-in_default
unfolding system_rules
returns-in_default c = search (then_failed, rules)

pub returns-in_default-even : goal.returns-in_default-even
unfolding system_rules
returns-in_default-even c = search (then_failed, then_fine, must_told, rules)

pub loop-k-preserved : goal.loop-k-preserved
loop-k-preserved c = search (next_told, each_pass, rules)

pub returns-in_default-checked : goal.returns-in_default-checked
unfolding system_rules
returns-in_default-checked c =
    let s = c.args.system.now in
    let inside : c.loop-k.k < slots s = omega (arith, c.loop-k-test.true, c.as_chunks.ensures.front_len) in
    let told : c.check_record-checked.result ≡ slot_rules s c.loop-k.k = search (next_told, rules) in
    let fails = each_fail (slot_rules s) c.loop-k.k c.loop-k.invariant (slots s) inside told c.in_default-checked.is in
    search (then_fine, must_told, rules)

pub returns : goal.returns
unfolding system_rules
returns c =
    let all : c.loop-k.k ≡ slots c.args.system.now = omega (arith, c.loop-k-test.false, c.loop-k.auto.k-end, c.as_chunks.ensures.front_len) in
    search (then_fine, must_told, rules)
