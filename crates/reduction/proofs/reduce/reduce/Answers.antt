-- `reduction::reduce::reduce` meets its contract: under refusal 13 the log alone is written, and otherwise the answer and the buffers are those
-- of the words that the run left. What the answer means follows from the exact clauses.
use borrow.Author.Rules.{rules}
use mathlib.Core.Path.{◌∙◌, refl, sym}
use Rattle.records.proofs.Chains.{changed, passed_changed, then_failed, unchanged}
use Rattle.slots.proofs.Systems.{both_fits, both_size}
use Rattle.runs.specs.Runs.{room_for}
use Rattle.reduction.proofs.Calls.{answer-given, answer-refused, run_count, run_fits, run_left, run_logged, run_passed, run_refused, run_stored}
use Rattle.reduction.proofs.Meaning.{reduce_means}
use Rattle.reduction.proofs.reduce.reduce.Goals as goal

pub returns-in_default : goal.returns-in_default
returns-in_default c = search (answer-refused, then_failed, unchanged, reduce_means, rules)

pub load-requires : goal.load-requires
load-requires c = search (both_size, rules)

pub returns-in_default-ran : goal.returns-in_default-ran
returns-in_default-ran c =
    let passed = sym c.check_system_room-checked.ensures ∙ c.in-Ok.is in
    let short = run_refused _ c.args.system.now _ (room_for c.args.log.now) c.load.ensures c.run-ran.ensures.moves passed c.in_default-ran.is c.refuse.ensures in
    let answer = answer-refused _ _ _ _ short c.refuse.ensures c.from-in_default-ran.ensures in
    let words = unchanged _ _ c.args.words.now short c.refuse.ensures in
    let log = passed_changed _ _ c.args.log.now passed (run_logged _ _ (room_for c.args.log.now) c.load.ensures c.args.log.now c.run-ran.ensures.log) in
    record { answer = answer; words = words; log = log; means = reduce_means _ _ _ _ _ _ answer words log }

pub store-requires : goal.store-requires
store-requires c =
    let left = c.words-reduced.ensures ∙ c.system.ensures.system ∙ c.run-ran.ensures.words in
    let fits = both_fits _ _ c.check_system_room-checked.ensures c.in-Ok.is in
    record { room = run_fits c.args.system.now _ (room_for c.args.log.now) c.load.ensures _ left fits }

pub returns : goal.returns
returns c =
    let passed = sym c.check_system_room-checked.ensures ∙ c.in-Ok.is in
    let ended = run_passed _ c.args.system.now _ (room_for c.args.log.now) c.load.ensures c.run-ran.ensures.moves passed c.in-Ok-ran.is in
    let count = run_count _ c.args.system.now _ (room_for c.args.log.now) c.load.ensures c.run-ran.ensures.moves passed c.in-Ok-ran.is in
    let left = c.words-reduced.ensures ∙ c.system.ensures.system ∙ run_left _ _ (room_for c.args.log.now) c.load.ensures c.run-ran.ensures.words in
    let answer = answer-given _ _ _ _ ended count left c.of.ensures in
    let words = changed _ _ c.args.words.now ended refl (run_stored c.args.words.now left c.store.ensures) in
    let log = passed_changed _ _ c.args.log.now passed (run_logged _ _ (room_for c.args.log.now) c.load.ensures c.args.log.now c.run-ran.ensures.log) in
    record { answer = answer; words = words; log = log; means = reduce_means _ _ _ _ _ _ answer words log }
