-- `membership::member` meets its contract: a call that fails its tests changes no buffer, under refusal 13 the log alone is written, and otherwise
-- the answer and the buffers are those of the words that the run left. What the answer means follows from the exact clauses.
use mathlib.Core.Path.{◌∙◌, ap, refl}
use Rattle.records.specs.declared.answers.Verdict.{Verdict}
use Rattle.reduction.specs.Reduction.{summed}
use Rattle.records.proofs.Chains.{changed, passed_changed, then_failed, unchanged}
use Rattle.runs.specs.Runs.{room_for}
use Rattle.reduction.proofs.Calls.{answer-given, answer-refused, run_count, run_fits, run_left, run_logged, run_passed, run_refused, run_stored}
use Rattle.asking.proofs.Calls.{product_same, verdict_same}
use Rattle.membership.proofs.Calls.{passed_fits, passed_on, passed_product, passed_size, passed_target}
use Rattle.membership.proofs.Meaning.{member_means, member_turns}
use Rattle.membership.proofs.member.Goals as goal

pub returns-in_default : goal.returns-in_default
returns-in_default c =
    let tests = then_failed _ _ c.check_member-checked.ensures c.in_default.is in
    let answer = answer-refused _ _ _ _ tests c.in_default.is c.from.ensures in
    let words = unchanged _ _ c.args.words.now tests c.in_default.is in
    let log = unchanged _ _ c.args.log.now c.check_member-checked.ensures c.in_default.is in
    let product = unchanged _ _ c.args.product.now tests c.in_default.is in
    record {
      answer = answer;
      words = words;
      log = log;
      product = product;
      means = member_means _ _ _ _ _ _ _ _ _ answer words log product;
      in_turn = member_turns _ _ _ _ _ _ _ _ _ answer words log product;
    }

pub load-requires : goal.load-requires
load-requires c = passed_size _ _ _ _ (passed_on _ _ _ _ c.check_member-checked.ensures c.in-Ok.is)

pub returns-in_default-ran : goal.returns-in_default-ran
returns-in_default-ran c =
    let passed = passed_on _ _ _ _ c.check_member-checked.ensures c.in-Ok.is in
    let room = room_for c.args.log.now in
    let short = run_refused _ c.args.system.now _ room c.load.ensures c.run-ran.ensures.moves passed c.in_default-ran.is c.refuse.ensures in
    let answer = answer-refused _ _ _ _ short c.refuse.ensures c.from-in_default-ran.ensures in
    let words = unchanged _ _ c.args.words.now short c.refuse.ensures in
    let log = passed_changed _ _ c.args.log.now passed (run_logged _ _ room c.load.ensures c.args.log.now c.run-ran.ensures.log) in
    let product = unchanged _ _ c.args.product.now short c.refuse.ensures in
    record {
      answer = answer;
      words = words;
      log = log;
      product = product;
      means = member_means _ _ _ _ _ _ _ _ _ answer words log product;
      in_turn = member_turns _ _ _ _ _ _ _ _ _ answer words log product;
    }

pub store-requires : goal.store-requires
store-requires c =
    let left = c.words-reduced.ensures ∙ c.system.ensures.system ∙ c.run-ran.ensures.words in
    let fits = passed_fits _ _ _ _ (passed_on _ _ _ _ c.check_member-checked.ensures c.in-Ok.is) in
    record { room = run_fits c.args.system.now _ (room_for c.args.log.now) c.load.ensures _ left fits }

pub as_record-requires : goal.as_record-requires
as_record-requires c = passed_target _ _ _ _ (passed_on _ _ _ _ c.check_member-checked.ensures c.in-Ok.is)

pub ask_words-verdict-requires : goal.ask_words-verdict-requires
ask_words-verdict-requires c = passed_product _ _ _ _ (passed_on _ _ _ _ c.check_member-checked.ensures c.in-Ok.is)

pub returns : goal.returns
returns c =
    let passed = passed_on _ _ _ _ c.check_member-checked.ensures c.in-Ok.is in
    let room = room_for c.args.log.now in
    let ended = run_passed _ c.args.system.now _ room c.load.ensures c.run-ran.ensures.moves passed c.in-Ok-ran.is in
    let count = run_count _ c.args.system.now _ room c.load.ensures c.run-ran.ensures.moves passed c.in-Ok-ran.is in
    let left = c.words-reduced.ensures ∙ c.system.ensures.system ∙ run_left _ _ room c.load.ensures c.run-ran.ensures.words in
    let verdict = verdict_same left c.as_record.ensures c.ask_words-verdict.ensures.verdict in
    let told = c.of.ensures ∙ ap (λ (v : Verdict). summed v c.in-Ok-ran.moves c.words-reduced.result.now) verdict in
    let answer = answer-given _ _ _ _ ended count left told in
    let words = changed _ _ c.args.words.now ended refl (run_stored c.args.words.now left c.store.ensures) in
    let log = passed_changed _ _ c.args.log.now passed (run_logged _ _ room c.load.ensures c.args.log.now c.run-ran.ensures.log) in
    let product = changed _ _ c.args.product.now ended refl (product_same left c.as_record.ensures c.args.product.now c.ask_words-verdict.ensures.product) in
    record {
      answer = answer;
      words = words;
      log = log;
      product = product;
      means = member_means _ _ _ _ _ _ _ _ _ answer words log product;
      in_turn = member_turns _ _ _ _ _ _ _ _ _ answer words log product;
    }
