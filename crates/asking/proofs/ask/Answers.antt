-- `asking::ask` meets its contract: each way out is the first test that fails, and the last one answers by the words that were taken in. What the
-- answer means follows from the exact clauses.
use borrow.Author.Rules.{rules}
use mathlib.Core.Path.{◌∙◌}
use Rattle.records.proofs.Chains.{changed, then_failed, then_fine, unchanged}
use Rattle.asking.proofs.Calls.{asked-given, asked-refused, product_same, question_size, question_target, ready_room, ready_told, verdict_same}
use Rattle.asking.proofs.Meaning.{ask_means}
use Rattle.asking.proofs.ask.Goals as goal

pub returns-in_default : goal.returns-in_default
returns-in_default c = search (asked-refused, then_failed, unchanged, ask_means, rules)

pub load-requires : goal.load-requires
load-requires c = search (question_size, rules)

pub returns-in_default-ready : goal.returns-in_default-ready
returns-in_default-ready c =
    let ready = then_fine _ _ c.check_question-checked.ensures c.in-Ok.is (ready_told _ _ _ c.load.ensures c.check_ready-ready.ensures.ready) in
    let answer = asked-refused _ _ ready c.in_default-ready.is c.from-in_default-ready.ensures in
    let product = unchanged _ _ c.args.product.now ready c.in_default-ready.is in
    record { answer = answer; product = product; means = ask_means _ _ _ _ _ answer product }

pub as_record-requires : goal.as_record-requires
as_record-requires c = search (question_target, rules)

pub ask_words-verdict-requires : goal.ask_words-verdict-requires
ask_words-verdict-requires c = ready_room _ _ c.check_ready-ready.ensures.ready c.in-Ok-ready.is

pub returns : goal.returns
returns c =
    let ready = then_fine _ _ c.check_question-checked.ensures c.in-Ok.is (ready_told _ _ _ c.load.ensures c.check_ready-ready.ensures.ready) in
    let same = c.words.ensures ∙ c.system.ensures.system ∙ c.check_ready-ready.ensures.same ∙ c.load.ensures in
    let answer = asked-given _ _ ready c.in-Ok-ready.is (verdict_same same c.as_record.ensures c.ask_words-verdict.ensures.verdict) in
    let product = changed _ _ c.args.product.now ready c.in-Ok-ready.is (product_same same c.as_record.ensures c.args.product.now c.ask_words-verdict.ensures.product) in
    record { answer = answer; product = product; means = ask_means _ _ _ _ _ answer product }
