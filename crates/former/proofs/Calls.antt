-- Every call but show, whose one test is its own, as a function of what the tests of its system find: so one law about those tests tells what
-- differs in its answer and in each lent buffer. The entries for C give these answers as numbers, so it holds of them too.
use Prim.Native.Nat.{◌*◌, ℕ}
use mathlib.Core.Bool.{Bool}
use mathlib.Core.List.{List}
use mathlib.Core.Path.{◌≡◌, refl}
use lib.Dec.{leb}
use lib.ListN.{length}
use Rattle.words.specs.Buffers.{written}
use Rattle.records.specs.Answers.{answer_of, on_fine}
use Rattle.records.specs.Records.{record_of}
use Rattle.records.specs.Refusals.{◌and_then◌, must, refusal, target_rules}
use Rattle.records.specs.declared.answers.Answer.{Answer}
use Rattle.records.specs.declared.answers.Verdict.TheVariants.{Done}
use Rattle.slots.specs.Refusals.{system_room, system_rules, word_room}
use Rattle.slots.specs.Systems.{bytes_of, freely_reduced_words, slots}
use Rattle.tidy.specs.Tidy.{tidy_answer, tidy_buffer}
use Rattle.moves.specs.Logs.{log_rules, moves_in}
use Rattle.replay.specs.Replay.{replay_answer, replay_buffer, replay_rules, replay_tests, replayed, run_rules}
use Rattle.multiply.specs.Multiply.{multiply_answer, multiply_buffer, multiply_rules, multiply_tests, product_word}
use Rattle.multiply.specs.SlotLetters.{slot_rule}
use Rattle.runs.specs.Runs.{room_for}
use Rattle.reduction.specs.Reduction.{log_after, reduce_answer, reduce_log, reduce_words, reduction_of, refused_reduction, refused_test, run_tests, test_answer, tested_of, words_after}
use Rattle.reduction.specs.declared.answers.Reduction.{Reduction}
use Rattle.reduction.specs.declared.answers.Tested.{Tested}
use Rattle.factoring.specs.TargetProduct.{is_found, product_after}
use Rattle.asking.specs.Asking.{ask_answer, ask_found, ask_product, asked_of, question_rules, ready_rules, verdict_of}
use Rattle.membership.specs.Membership.{member_answer, member_found, member_log, member_product, member_tests, member_words}
use Rattle.former.proofs.Order.{SameUnless, former_system_rules, same_by}
use Rattle.former.proofs.Lengths.{system-same_unless}
use Rattle.records.specs.declared.refusals.Reason.TheVariants.{ProductBufferShort, SystemTooLong, WordTooLong}
use Rattle.records.specs.Refusals.{Checked}

-- `given` is what a call gives on a system, and `call` the same as a function of what the tests of the system find
pub record CallSameUnless {A : Type 0} (s : List ℕ) (call : Checked → A) (given refused : A) : Type 0 where
  pub as_it_is : given ≡ call (system_rules s)
  -- with the former tests it is the same, unless the system is longer than 1,024 bytes and uneven; there it is `refused` now
  pub as_it_was : SameUnless 1024 (length s) given (call (former_system_rules s)) refused

-- so it is with every function of what they find
call_same_unless : {A : Type 0} (s : List ℕ) (call : Checked → A) → CallSameUnless s call (call (system_rules s)) (call (refusal SystemTooLong 0))
call_same_unless s call = record { as_it_is = refl; as_it_was = same_by call 1024 (length s) (system-same_unless s) }

-- tidy: its answer and its buffer
abbrev pub tidy_with : Checked → List ℕ → List ℕ → Answer × List ℕ
tidy_with found s buffer =
    let tests : Checked = found and_then word_room (slots s * 64) (length buffer) in
    (answer_of tests, on_fine tests (written (bytes_of (freely_reduced_words s)) buffer) buffer)

pub tidy_same_unless : (s buffer : List ℕ)
    → CallSameUnless s (λ found. tidy_with found s buffer) (tidy_answer s buffer, tidy_buffer s buffer) (answer_of (refusal SystemTooLong 0), buffer)
unfolding system_room
tidy_same_unless s buffer = call_same_unless s (λ found. tidy_with found s buffer)

-- test
abbrev pub test_with : Checked → List ℕ → Tested
test_with found s = tested_of found (freely_reduced_words s)

pub test_same_unless : (s : List ℕ) → CallSameUnless s (λ found. test_with found s) (test_answer s) (refused_test (refusal SystemTooLong 0))
test_same_unless s = call_same_unless s (λ found. test_with found s)

-- reduce: its answer, the words and the log
abbrev pub reduce_with : Checked → List ℕ → List ℕ → List ℕ → Reduction × List ℕ × List ℕ
reduce_with found s words log =
    let tests : Checked = found and_then word_room (slots s * 64) (length words) in
    let S : List (List ℕ) = freely_reduced_words s in
    (reduction_of (run_tests tests S (room_for log)) Done S (room_for log), words_after tests S (room_for log) words, log_after tests S (room_for log) log)

pub reduce_same_unless : (s words log : List ℕ)
    → CallSameUnless s (λ found. reduce_with found s words log) (reduce_answer s words log, reduce_words s words log, reduce_log s words log)
    (refused_reduction (refusal SystemTooLong 0), words, log)
unfolding system_room
reduce_same_unless s words log = call_same_unless s (λ found. reduce_with found s words log)

-- ask: its answer and the product
abbrev pub ask_with : Checked → List ℕ → List ℕ → List ℕ → Answer × List ℕ
ask_with found s t product =
    let tests : Checked = (found and_then target_rules t) and_then ready_rules (freely_reduced_words s) (length product) in
    (asked_of tests (verdict_of (is_found (ask_found s t))), on_fine tests (product_after (ask_found s t) product) product)

pub ask_same_unless : (s t product : List ℕ)
    → CallSameUnless s (λ found. ask_with found s t product) (ask_answer s t product, ask_product s t product) (answer_of (refusal SystemTooLong 0), product)
unfolding question_rules
ask_same_unless s t product = call_same_unless s (λ found. ask_with found s t product)

-- member: its answer, the words, the log and the product
abbrev pub member_with : Checked → List ℕ → List ℕ → List ℕ → List ℕ → List ℕ → Reduction × List ℕ × List ℕ × List ℕ
member_with found s t words log product =
    let tests : Checked = found and_then target_rules t and_then word_room (slots s * 64) (length words) and_then must (leb 64 (length product)) ProductBufferShort 0 in
    let S : List (List ℕ) = freely_reduced_words s in
    let product-of = member_found s t words log product in (
      reduction_of (run_tests tests S (room_for log)) (verdict_of (is_found product-of)) S (room_for log),
      words_after tests S (room_for log) words,
      log_after tests S (room_for log) log,
      on_fine (run_tests tests S (room_for log)) (product_after product-of product) product,
    )

pub member-same_unless : (s t words log product : List ℕ)
    → CallSameUnless s (λ found. member_with found s t words log product)
    (member_answer s t words log product, member_words s t words log product, member_log s t words log product, member_product s t words log product)
    (refused_reduction (refusal SystemTooLong 0), words, log, product)
unfolding member_tests
member-same_unless s t words log product = call_same_unless s (λ found. member_with found s t words log product)

-- replay: its answer and its buffer
abbrev pub replay_with : Checked → List ℕ → List ℕ → Bool → List ℕ → Answer × List ℕ
replay_with found s log backward buffer =
    let tests : Checked =
    (found and_then log_rules (slots s) log and_then word_room (slots s * 64) (length buffer)) and_then run_rules backward (freely_reduced_words s) log in
    (answer_of tests, on_fine tests (written (bytes_of (replayed backward (freely_reduced_words s) (moves_in log))) buffer) buffer)

pub replay_same_unless : (s log : List ℕ) (backward : Bool) (buffer : List ℕ)
    → CallSameUnless s (λ found. replay_with found s log backward buffer) (replay_answer s log backward buffer, replay_buffer s log backward buffer)
    (answer_of (refusal SystemTooLong 0), buffer)
unfolding replay_rules replay_tests
replay_same_unless s log backward buffer = call_same_unless s (λ found. replay_with found s log backward buffer)

-- multiply: its answer and its buffer
abbrev pub multiply_with : Checked → List ℕ → List ℕ → List ℕ → Answer × List ℕ
multiply_with found s p buffer =
    let tests : Checked =
    (found and_then target_rules p and_then slot_rule (slots s) p and_then word_room 64 (length buffer)) and_then must (leb (length (product_word s p)) 63) WordTooLong 0 in
    (answer_of tests, on_fine tests (written (record_of (product_word s p)) buffer) buffer)

pub multiply_same_unless : (s p buffer : List ℕ)
    → CallSameUnless s (λ found. multiply_with found s p buffer) (multiply_answer s p buffer, multiply_buffer s p buffer) (answer_of (refusal SystemTooLong 0), buffer)
unfolding multiply_rules multiply_tests
multiply_same_unless s p buffer = call_same_unless s (λ found. multiply_with found s p buffer)
