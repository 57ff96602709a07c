-- Reduce and test: the rules of the moves run over a system of records.
use Rattle.std.specs.Prelude.{ℕ, false, List, length}
use Rattle.words.specs.Alphabet.{bytes}
use Rattle.words.specs.Buffers.{written}
use Rattle.systems.specs.Rank.{none_blank, rank}
use Rattle.systems.specs.Rules.{moves_within, run_within}
use Rattle.records.specs.Answers.{on_fine}
use Rattle.records.specs.declared.answers.Verdict.{Verdict}
use Rattle.records.specs.declared.answers.Verdict.TheVariants.{Done, Refused}
use Rattle.records.specs.Refusals.{◌and_then◌, must}
use Rattle.slots.specs.Refusals.{system_room, system_rules}
use Rattle.slots.specs.Systems.{bytes_of, freely_reduced_words}
use Rattle.moves.specs.Logs.{logged_all, log_of}
use Rattle.runs.specs.Runs.{room_for, stopped}
use Rattle.reduction.specs.declared.answers.Reduction.{Reduction}
use Rattle.reduction.specs.declared.answers.Tested.{Tested}
use Rattle.records.specs.declared.refusals.Reason.TheVariants.{LogBufferShort}
use Rattle.std.specs.Prelude.{Err, Ok}
use Rattle.records.specs.Refusals.{Checked}

-- "Under a refusal all other numbers are 0 and every yes-or-no is no." Only a failed check comes here.
abbrev pub refused_reduction : Checked → Reduction
refused_reduction (Ok _) = record { verdict = Done; moves = 0; rank = 0; independent = false }
refused_reduction (Err f) = record { verdict = Refused f; moves = 0; rank = 0; independent = false }

-- the answer of reduce and of member: a refusal, or a verdict with the numbers of a run of at most so many moves. "The verdict is
-- 'independent' exactly when no slot, given blank or not, is blank at the end."
abbrev pub reduction_of : Checked → Verdict → List (List ℕ) → ℕ → Reduction
reduction_of (Ok _) verdict S most =
    record {
      verdict = verdict;
      moves = length (moves_within bytes most S);
      rank = rank (run_within bytes most S);
      independent = none_blank (run_within bytes most S);
    }
reduction_of (Err f) verdict S most = refused_reduction (Err f)

-- reduce and member alike: the freely reduced words S are run over where no test before the run fails, with room for so many moves
module _ (tests : Checked) (S : List (List ℕ)) (most : ℕ) where
  -- those tests, and then 13. "The moves number more than an eighth of the log buffer's length, rounded down."
  abbrev pub run_tests : Checked
  run_tests = tests and_then must (stopped (run_within bytes most S)) LogBufferShort 0

  -- the words that the run leaves, in the buffer for words
  abbrev pub words_after : List ℕ → List ℕ
  words_after words = on_fine run_tests (written (bytes_of (run_within bytes most S)) words) words

  -- "Under 13 the log holds, as whole records, the first moves that fit; its other bytes and the other buffers are untouched."
  abbrev pub log_after : List ℕ → List ℕ
  log_after log = on_fine tests (written (log_of (logged_all S (moves_within bytes most S))) log) log

-- Reduce: "give the reduced system, the log, the number of moves, the rank and the verdict on independence"; refusals 1 to 5, 10, 13
module _ (s words log : List ℕ) where
  abbrev pub reduce_tests : Checked
  reduce_tests = run_tests (system_room s (length words)) (freely_reduced_words s) (room_for log)

  abbrev pub reduce_answer : Reduction
  reduce_answer = reduction_of reduce_tests Done (freely_reduced_words s) (room_for log)

  abbrev pub reduce_words : List ℕ
  reduce_words = words_after (system_room s (length words)) (freely_reduced_words s) (room_for log) words

  abbrev pub reduce_log : List ℕ
  reduce_log = log_after (system_room s (length words)) (freely_reduced_words s) (room_for log) log

-- the answer with a verdict, after so many moves that left the words T
abbrev pub summed : Verdict → ℕ → List (List ℕ) → Reduction
summed verdict moves T = record { verdict = verdict; moves = moves; rank = rank T; independent = none_blank T }

-- under a refusal test says no. Only a failed check comes here.
abbrev pub refused_test : Checked → Tested
refused_test (Ok _) = record { verdict = Done; reduced = false }
refused_test (Err f) = record { verdict = Refused f; reduced = false }

-- Test: "is a system, after free reduction of its words, reduced?"
abbrev pub tested_of : Checked → List (List ℕ) → Tested
tested_of (Ok _) S = record { verdict = Done; reduced = stopped S }
tested_of (Err f) S = refused_test (Err f)

abbrev pub test_answer : List ℕ → Tested
test_answer s = tested_of (system_rules s) (freely_reduced_words s)
