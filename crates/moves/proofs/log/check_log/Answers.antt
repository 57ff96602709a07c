-- `moves::log::check_log` meets its contract.
use borrow.Author.Rules.{rules}
use Rattle.std.proofs.Common.{arith}
use Rattle.records.proofs.Chains.{each_end, each_fail, each_pass, then_failed, then_fine}
use Rattle.moves.specs.Logs.{log_rules}
use Rattle.moves.proofs.Logging.{tested_at}
use Rattle.moves.proofs.log.check_log.Goals as goal

pub returns-in_default : goal.returns-in_default
unfolding log_rules
returns-in_default c = search (then_failed, rules)

pub returns-in_default-checked : goal.returns-in_default-checked
unfolding log_rules
returns-in_default-checked c =
    let told = tested_at c.args.log.now c.loop-j.j c.args.n _ _ c.as_chunks.ensures.front (omega (arith, c.loop-j-test.true, c.as_chunks.ensures.front_len))
    c.logged_in.ensures.read c.is_some-is_move.ensures c.check_that-checked.ensures in
    search (then_fine, each_fail, rules)

pub loop-j-preserved : goal.loop-j-preserved
loop-j-preserved c =
    let told = tested_at c.args.log.now c.loop-j.j c.args.n _ _ c.as_chunks.ensures.front (omega (arith, c.loop-j-test.true, c.as_chunks.ensures.front_len))
    c.logged_in.ensures.read c.is_some-is_move.ensures c.check_that-checked.ensures in
    search (each_pass, rules)

pub returns : goal.returns
unfolding log_rules
returns c = search (then_fine, each_end, rules)
